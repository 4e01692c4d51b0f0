use Rattle.pts_lowering.specs.Forms as spec
use Rattle.pts_lowering.proofs.Turns.{Made}
use Rattle.pts_lowering.proofs.loops.lower_clauses.Given as goal

abbrev pub invariant-loop-clause : goal.invariant-loop-clause
invariant-loop-clause l = Made (spec.loop_clause l.scope) l.clauses l.clause-index l.lowered
