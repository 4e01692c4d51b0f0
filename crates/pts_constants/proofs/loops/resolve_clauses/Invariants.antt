use Rattle.pts_constants.specs.Resolved as spec
use Rattle.pts_constants.proofs.Turns.{Copied}
use Rattle.pts_constants.proofs.loops.resolve_clauses.Given as goal

abbrev pub invariant-loop-clause : goal.invariant-loop-clause
invariant-loop-clause l = Copied (spec.resolved_clause l.scope) l.clauses l.clause-index l.done
