use Rattle.std.proofs.Common.{◌≡◌, map, take}
use Rattle.std.specs.Prelude.{sum}
use Rattle.pts_rules.specs.Counts.{clause_points}
use Rattle.pts_limits.specs.Amounts.{capped}
use Rattle.pts_limits.proofs.counting.points_of_clauses.Given as goal

abbrev pub invariant-loop-clause : goal.invariant-loop-clause
invariant-loop-clause l = l.count ≡ capped (sum (map clause_points (take l.clause-index l.clauses)))
