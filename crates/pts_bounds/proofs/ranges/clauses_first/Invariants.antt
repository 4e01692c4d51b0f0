use Rattle.std.proofs.Common.{◌≡◌, take}
use Rattle.pts_bounds.specs.Firsts.{soonest}
use Rattle.pts_bounds.specs.Walks.{clause_first}
use Rattle.pts_bounds.proofs.ranges.clauses_first.Given as goal

abbrev pub invariant-loop-clause : goal.invariant-loop-clause
invariant-loop-clause l = l.first ≡ soonest (clause_first l.scope) (take l.clause-index l.clauses)
