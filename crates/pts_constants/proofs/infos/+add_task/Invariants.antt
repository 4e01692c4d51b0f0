use Rattle.pts_constants.specs.Blocks as spec
use Rattle.pts_constants.proofs.Additions.{Added}
use Rattle.pts_constants.proofs.infos.«+add_task».Given as goal

abbrev pub invariant-add_tasks-loop-stmt : goal.invariant-add_tasks-loop-stmt
invariant-add_tasks-loop-stmt l = Added (spec.task_infos l.scope l.item) l.stmts l.stmt-index l.initial.blocks l.blocks
