use Rattle.std.proofs.Common.{◌≡◌, ◌++◌, length, replicate, drop, None, flat_map}
use Rattle.pts_passes.specs.Inductions as spec
use Rattle.pts_loops.proofs.run.Run.enter.Given as goal

abbrev pub invariant-loop-j : goal.invariant-loop-j
invariant-loop-j l =
    (l.turn.values.items ++ flat_map (spec.clause_values l.fn.turn.layer.below l.p) (drop l.j l.clauses) ≡ spec.head_values l.fn.turn.layer.below l.self.head.now l.p)
    × (l.turn.notes.items ≡ replicate (length l.fn.turn.notes.items) None) × (l.turn.layer ≡ l.fn.turn.layer) × (l.turn.first ≡ l.fn.turn.first)
    × (l.turn.begun.items ≡ l.fn.turn.begun.items) × (l.turn.accumulators.items ≡ l.fn.turn.accumulators.items)
