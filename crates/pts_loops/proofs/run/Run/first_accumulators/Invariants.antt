use Rattle.std.proofs.Common.{◌≡◌, map, take}
use Rattle.pts_loops.specs.Turns.{first_accumulator}
use Rattle.pts_loops.proofs.run.Run.first_accumulators.Given as goal

abbrev pub invariant-loop-clause : goal.invariant-loop-clause
invariant-loop-clause l = l.accumulators.items ≡ map (first_accumulator l.layer.stands) (take l.clause-index l.self.head.now.clauses)
