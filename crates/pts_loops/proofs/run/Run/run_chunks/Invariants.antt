use Rattle.std.proofs.Common.{◌≡◌, ◌-◌, ◌≤◌}
use Rattle.pts_loops.specs.Turns.{IsAtPosition}
use Rattle.pts_loops.proofs.run.Run.run_chunks.Given as goal

abbrev pub invariant-loop-low : goal.invariant-loop-low
invariant-loop-low g l =
    IsAtPosition l.self l.fn.turn.layer.below l.low l.turn × (l.turn.layer.below ≡ l.fn.turn.layer.below) × (l.low ≤ l.count) × (l.chunk ≤ l.low)

abbrev pub decreases-loop-low : goal.decreases-loop-low
decreases-loop-low g l = l.count - l.low
