use Rattle.pts_rules.specs.Parts.{clause_names}
use Rattle.pts_names.proofs.Missing.{Looked}
use Rattle.pts_names.proofs.loops.clauses_miss.Given as goal

abbrev pub invariant-loop-clause : goal.invariant-loop-clause
invariant-loop-clause l = Looked clause_names l.scope l.clauses l.clause-index
