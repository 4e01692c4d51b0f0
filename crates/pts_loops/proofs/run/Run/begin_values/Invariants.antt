use Rattle.std.proofs.Common.{◌≡◌, map, take}
use Rattle.pts_loops.specs.Turns.{begins_with}
use Rattle.pts_loops.proofs.run.Run.begin_values.Given as goal

abbrev pub invariant-loop-clause : goal.invariant-loop-clause
invariant-loop-clause l = l.values.items ≡ map (begins_with l.layer.stands) (take l.clause-index l.self.head.now.clauses)
