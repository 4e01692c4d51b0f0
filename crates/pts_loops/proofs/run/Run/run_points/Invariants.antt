use Rattle.std.proofs.Common.{◌≡◌, ◌≤◌}
use Rattle.pts_loops.specs.Turns.{IsAtPoint, last}
use Rattle.pts_loops.proofs.run.Run.run_points.Given as goal

abbrev pub invariant-loop-k : goal.invariant-loop-k
invariant-loop-k l =
    IsAtPoint l.self l.fn.turn.layer.below l.p l.k l.turn × (l.k ≤ last l.self l.fn.turn.layer.below) × (l.turn.layer.below ≡ l.fn.turn.layer.below)
