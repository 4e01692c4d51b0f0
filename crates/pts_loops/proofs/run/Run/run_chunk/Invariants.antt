use Rattle.std.proofs.Common.{◌≡◌}
use Rattle.pts_loops.specs.Turns.{IsAtPosition}
use Rattle.pts_loops.proofs.run.Run.run_chunk.Given as goal

abbrev pub invariant-loop-p : goal.invariant-loop-p
invariant-loop-p l = IsAtPosition l.self l.fn.turn.layer.below l.p l.turn × (l.turn.layer.below ≡ l.fn.turn.layer.below)
