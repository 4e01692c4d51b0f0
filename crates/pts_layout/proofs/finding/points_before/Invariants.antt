use Rattle.std.proofs.Common.{◌-◌, ◌≤◌, length}
use Rattle.pts_layout.specs.Layout.{points_before}
use Rattle.pts_layout.proofs.finding.points_before.Given as goal

abbrev pub invariant-loop-low : goal.invariant-loop-low
invariant-loop-low l = (l.low ≤ points_before l.points l.item) × (points_before l.points l.item ≤ l.high) × (l.high ≤ length l.points)

abbrev pub decreases-loop-low : goal.decreases-loop-low
decreases-loop-low l = l.high - l.low
