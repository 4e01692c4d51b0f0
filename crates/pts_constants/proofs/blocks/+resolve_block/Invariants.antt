use Rattle.pts_constants.specs.Resolved as spec
use Rattle.pts_constants.proofs.Turns.{Copied}
use Rattle.pts_constants.proofs.blocks.«+resolve_block».Given as goal

abbrev pub invariant-resolve_tasks-loop-stmt : goal.invariant-resolve_tasks-loop-stmt
invariant-resolve_tasks-loop-stmt l = Copied (spec.resolved_task l.scope) l.stmts l.stmt-index l.done
