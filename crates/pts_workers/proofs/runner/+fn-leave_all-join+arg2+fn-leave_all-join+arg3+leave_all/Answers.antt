use Rattle.std.proofs.Common.{rules, ◌≡◌, ◌+◌, ◌-◌, ◌/◌, subst, arith}
use Rattle.pts_workers.specs.Drawing.{AreReady, Leaves}
use Rattle.pts_workers.proofs.Leaving.{leaves_both}
use Rattle.pts_workers.proofs.runner.+fn-leave_all-join+arg2+fn-leave_all-join+arg3+leave_all.Goals as goal

pub leave_one-requires-clause-ready : goal.leave_one-requires-clause-ready
leave_one-requires-clause-ready g t c κs within =
    let some = c.requires.some in
    let test = c.if-workers-lt2.true in
    let one : c.args.workers ≡ 1 = omega (arith, some, test) in
    c.in_ok-worker.ensures c.args.claims.now.id c.args.claims.now.parts
    (subst (λ n. AreReady c.args.claims.now.id c.args.claims.now.parts n c.args.desks) one c.requires.ready)

pub join-a-requires-after_bounds : goal.join-a-requires-after_bounds
join-a-requires-after_bounds g t c κs within =
    let theirs = c.in_ok-others.ensures.few c.args.claims.now.parts c.args.workers c.requires.ready in
    let mine = c.in_ok-others.ensures.rest c.args.claims.now.parts c.args.workers c.requires.ready in
    search (theirs, mine, rules)

pub returns : goal.returns
returns g t c =
    let few = c.args.workers / 2 in
    let total : c.args.workers - few + few ≡ c.args.workers = omega arith in
    subst (λ n. Leaves (g.W.Work.made c.args.work.now) c.args.claims.now.id n c.join.new.seat c.append.new.self) total
    (leaves_both (g.W.Work.made c.args.work.now) c.args.claims.now.id (c.args.workers - few) few c.in_ok-seat.seat c.in_ok-other.other c.join.new.seat
    c.in_ok-seat.shares c.in_ok-other.more c.append.new.self (search rules) (search rules) c.join.ensures.both (search rules) (search rules) (search rules))
