use Rattle.std.proofs.Common.{ap, map, sym, ◌∙◌}
use Rattle.pts_loops.specs.Turns.{begins_with}
use Rattle.pts_loops.proofs.LoopTurns.{begun_there}
use Rattle.pts_loops.proofs.Staying.{clause_goes, clause_leaves}
use Rattle.pts_loops.proofs.run.Run.all_stay.Goals as goal

pub returns-then-not-clause_stays : goal.returns-then-not-clause_stays
returns-then-not-clause_stays c =
    let store = c.args.turn.now.layer.below in
    let cs = c.as_slice-clauses.result.now in
    let begun = begun_there store c.loop-j.j cs _ c.args.turn.now.begun.items c.index.result.now c.loop-j-test.true
    (c.requires ∙ sym (ap (map (begins_with store)) c.as_slice-clauses.ensures)) c.index.ensures in
    clause_leaves store c.args.self.now.head.now.positions c.loop-j.j cs _ _ c.loop-j-test.true c.loop-j.invariant c.clause_stays.result c.if-not-clause_stays.true
    (c.clause_stays.ensures store begun)

pub loop-j-preserved : goal.loop-j-preserved
loop-j-preserved c =
    let store = c.args.turn.now.layer.below in
    let cs = c.as_slice-clauses.result.now in
    let begun = begun_there store c.loop-j.j cs _ c.args.turn.now.begun.items c.index.result.now c.loop-j-test.true
    (c.requires ∙ sym (ap (map (begins_with store)) c.as_slice-clauses.ensures)) c.index.ensures in
    clause_goes store c.args.self.now.head.now.positions c.loop-j.j cs _ _ c.loop-j-test.true c.loop-j.invariant c.clause_stays.result c.if-not-clause_stays.false
    (c.clause_stays.ensures store begun)
