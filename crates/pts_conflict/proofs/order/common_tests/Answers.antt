use Rattle.std.proofs.Common.{◌≡◌, ◌<◌, length, get_or, true, false, refl, arith}
use Rattle.pts_conflict.specs.Order.{same_side}
use Rattle.pts_conflict.proofs.Opposites.{step_both}
use Rattle.pts_conflict.proofs.order.common_tests.Goals as goal

pub loop-i-preserved : goal.loop-i-preserved
loop-i-preserved c =
    let within = c.loop-i-test.true in
    let few = c.min-few.ensures in
    let same = c.if-first-i.false in
    let side = c.if-first-i-2.false in
    step_both c.args.first.now c.args.second.now c.requires.first c.requires.second c.loop-i.i c.loop-i.i
    (get_or c.args.first.now c.loop-i.i (record { test = 0; taken = false })) (get_or c.args.second.now c.loop-i.i (record { test = 0; taken = false }))
    (record { test = 0; taken = false }) (record { test = 0; taken = false })
    (omega (arith, within, few)) (omega (arith, within, few)) refl refl c.loop-i.invariant (omega (arith, same)) (grind (arith, side))
