use Rattle.std.proofs.Common.{[], ◌∷◌}
use Rattle.pts_rules.specs.Parts.{clause_name}
use Rattle.pts_names.proofs.Entering.{Entering}
use Rattle.pts_names.proofs.locals.enter_clauses.Given as goal

abbrev pub invariant-loop-clause : goal.invariant-loop-clause
invariant-loop-clause l = Entering (λ c. clause_name c ∷ []) l.initial.scope l.scope l.clauses l.clause-index l.again
