use Rattle.std.proofs.Common.{◌≡◌, ◌+◌, ◌-◌, false, true, arith}
use Rattle.pts_sums.proofs.PutPlaces.{put_begun, put_done, put_item, throw_item}
use Rattle.pts_sums.proofs.places.Scanner.write_outcomes.Goals as goal

pub loop-at-init : goal.loop-at-init
loop-at-init g c =
    λ all new h.
    put_begun (g.T.Combining.op c.args.self.now.terms.now) (g.T.Terms.items c.args.self.now.terms.now) c.args.end all c.args.so_far c.args.start c.args.self.now.array
    (c.args.self.now.first + c.args.place) c.args.writes.now new h

pub returns-in_default : goal.returns-in_default
returns-in_default g c =
    c.loop-at.invariant false c.loop-at.writes
    (throw_item (g.T.Combining.op c.args.self.now.terms.now) (g.T.Terms.items c.args.self.now.terms.now) c.args.end c.loop-at.so_far c.add_item-so_far.result c.loop-at.at c.item.result c.outcome_of.result
    c.item.ensures c.loop-at-test.true c.add_item-so_far.ensures c.outcome_of.ensures c.args.self.now.array (c.args.self.now.first + c.args.place + (c.loop-at.at - c.args.start))
    c.loop-at.writes c.loop-at.writes c.in_default.is)

pub loop-at-preserved : goal.loop-at-preserved
loop-at-preserved g c =
    λ all new more.
    let index = c.args.self.now.first + c.args.place + (c.loop-at.at - c.args.start) in
    let after = c.args.self.now.first + c.args.place + ((c.loop-at.at + 1) - c.args.start) in
    let moved : after ≡ index + 1 = omega arith in
    c.loop-at.invariant all new
    (put_item (g.T.Combining.op c.args.self.now.terms.now) (g.T.Terms.items c.args.self.now.terms.now) c.args.end c.loop-at.so_far c.add_item-so_far.result c.loop-at.at c.item.result c.outcome_of.result
    c.item.ensures c.loop-at-test.true c.add_item-so_far.ensures c.outcome_of.ensures all c.in-Some.value c.args.self.now.array index after
    c.loop-at.writes c.set.new.self new c.in-Some.is c.in_ok-set.ensures.ok moved more)

pub returns : goal.returns
returns g c =
    c.loop-at.invariant true c.loop-at.writes
    (put_done (g.T.Combining.op c.args.self.now.terms.now) (g.T.Terms.items c.args.self.now.terms.now) c.args.end c.loop-at.so_far c.loop-at.at c.args.self.now.array
    (c.args.self.now.first + c.args.place + (c.loop-at.at - c.args.start)) c.loop-at.writes (omega arith))
