use Rattle.std.proofs.Common.{map}
use Rattle.std.specs.Prelude.{take}
use Rattle.pts_points.specs.Pieces.{sequence}
use Rattle.pts_points.specs.Points.{clause_piece}
use Rattle.pts_points.specs.Building.{Adds}
use Rattle.pts_points.proofs.builder.Builder.clauses.Given as goal

abbrev pub invariant-loop-clause : goal.invariant-loop-clause
invariant-loop-clause l = Adds l.initial.self l.self (sequence (map (clause_piece l.scope) (take l.clause-index l.clauses)))
