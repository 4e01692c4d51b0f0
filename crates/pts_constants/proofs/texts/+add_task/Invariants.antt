use Rattle.pts_constants.specs.Texts as spec
use Rattle.pts_constants.proofs.Additions.{Added}
use Rattle.pts_constants.proofs.texts.«+add_task».Given as goal

abbrev pub invariant-add_tasks-loop-stmt : goal.invariant-add_tasks-loop-stmt
invariant-add_tasks-loop-stmt l = Added (spec.task_texts l.scope) l.stmts l.stmt-index l.initial.texts l.texts
