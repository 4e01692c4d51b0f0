use Rattle.std.proofs.Common.{◌≡◌, length}
use Rattle.pts_loops.specs.Assigning.{IsAssigning}
use Rattle.pts_loops.proofs.run.Run.assign.Given as goal

abbrev pub invariant-loop-j : goal.invariant-loop-j
invariant-loop-j l =
    IsAssigning l.self l.fn.turn.layer.below l.j l.turn l.values × (length l.turn.begun.items ≡ length l.clauses) × (length l.turn.accumulators.items ≡ length l.clauses)
    × (l.turn.layer.below ≡ l.fn.turn.layer.below)
