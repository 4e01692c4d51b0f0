use Rattle.std.proofs.Common.{◌+◌, ◌-◌, ◌/◌, ◌<◌, ℕ, get_or, length, refl, arith}
use Rattle.pts_layout.proofs.Halving.{above, below}
use Rattle.pts_layout.proofs.finding.points_before.Goals as goal

pub loop-low-preserved-then-points-middle : goal.loop-low-preserved-then-points-middle
loop-low-preserved-then-points-middle c =
    let middle : ℕ = c.loop-low.low + (c.loop-low.high - c.loop-low.low) / 2 in
    let more = c.loop-low-test.true in
    let last = c.loop-low.invariant.2 in
    let within : middle < length c.args.points.now = omega (arith, more, last) in
    let next = above c.args.points.now c.args.item c.requires middle (get_or c.args.points.now middle c.index-points-middle.result) c.index-points-middle.result within refl c.if-points-middle.true in
    (omega (arith, next), c.loop-low.invariant.1, last)

pub loop-low-preserved : goal.loop-low-preserved
loop-low-preserved c =
    let middle : ℕ = c.loop-low.low + (c.loop-low.high - c.loop-low.low) / 2 in
    let more = c.loop-low-test.true in
    let last = c.loop-low.invariant.2 in
    let within : middle < length c.args.points.now = omega (arith, more, last) in
    let not = c.if-points-middle.false in
    let here = below c.args.points.now c.args.item c.requires middle (get_or c.args.points.now middle c.index-points-middle.result) c.index-points-middle.result within refl (λ h. omega (arith, h, not)) in
    (c.loop-low.invariant.0, here, (omega (arith, within)))
