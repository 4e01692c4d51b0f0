use Rattle.std.specs.Prelude.{◌≡◌, drop, fold}
use Rattle.pts_steps.specs.Building.{with_clause}
use Rattle.pts_steps.proofs.builder.Builder.enter_clauses.Given as goal

abbrev pub invariant-loop-clause : goal.invariant-loop-clause
invariant-loop-clause l = fold with_clause l.self (drop l.clause-index l.clauses) ≡ fold with_clause l.initial.self l.clauses
