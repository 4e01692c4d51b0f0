use Rattle.std.proofs.Common.{get_or, false, refl}
use Rattle.pts_conflict.proofs.Opposites.{step_first, step_second}
use Rattle.pts_conflict.proofs.order.are_opposite.Goals as goal

pub loop-i-preserved-then-first-i : goal.loop-i-preserved-then-first-i
loop-i-preserved-then-first-i c =
    step_first c.args.first.now c.args.second.now c.requires.first c.requires.second c.loop-i.i c.loop-i.j
    (get_or c.args.first.now c.loop-i.i (record { test = 0; taken = false })) (get_or c.args.second.now c.loop-i.j (record { test = 0; taken = false }))
    (record { test = 0; taken = false }) (record { test = 0; taken = false })
    c.loop-i-test.true c.if-j-second.true refl refl c.loop-i.invariant c.if-first-i.true

pub loop-i-preserved-then-second-j : goal.loop-i-preserved-then-second-j
loop-i-preserved-then-second-j c =
    step_second c.args.first.now c.args.second.now c.requires.first c.requires.second c.loop-i.i c.loop-i.j
    (get_or c.args.first.now c.loop-i.i (record { test = 0; taken = false })) (get_or c.args.second.now c.loop-i.j (record { test = 0; taken = false }))
    (record { test = 0; taken = false }) (record { test = 0; taken = false })
    c.loop-i-test.true c.if-j-second.true refl refl c.loop-i.invariant c.if-second-j.true
