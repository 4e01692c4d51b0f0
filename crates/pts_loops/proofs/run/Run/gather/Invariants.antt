use Rattle.std.proofs.Common.{◌≡◌, drop}
use Rattle.pts_loops.specs.Gathering as spec
use Rattle.pts_loops.proofs.run.Run.gather.Given as goal

abbrev pub invariant-loop-k : goal.invariant-loop-k
invariant-loop-k l =
    (spec.gathered l.self.functions.now l.self.head.now.clauses l.fn.turn.notes.items l.k (drop l.k l.self.steps.now) l.turn.accumulators.items
    ≡ spec.gathered l.self.functions.now l.self.head.now.clauses l.fn.turn.notes.items 0 l.self.steps.now l.fn.turn.accumulators.items)
    × (l.turn.layer ≡ l.fn.turn.layer) × (l.turn.first ≡ l.fn.turn.first) × (l.turn.begun.items ≡ l.fn.turn.begun.items) × (l.turn.notes.items ≡ l.fn.turn.notes.items)
