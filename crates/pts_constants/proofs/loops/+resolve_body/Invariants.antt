use Rattle.pts_constants.specs.Resolved as spec
use Rattle.pts_constants.proofs.Turns.{Copied}
use Rattle.pts_constants.proofs.loops.«+resolve_body».Given as goal

abbrev pub invariant-resolve_body-loop-stmt : goal.invariant-resolve_body-loop-stmt
invariant-resolve_body-loop-stmt l = Copied (spec.resolved_stmt l.scope) l.stmts l.stmt-index l.done
