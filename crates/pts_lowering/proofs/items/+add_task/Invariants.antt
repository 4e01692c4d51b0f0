use Rattle.std.specs.Prelude.{◌+◌}
use Rattle.pts_points.proofs.Weights.{task_weight, task_weights}
use Rattle.pts_lowering.specs.Forms as spec
use Rattle.pts_constants.proofs.Additions.{Added}
use Rattle.pts_lowering.proofs.items.«+add_task».Given as goal

abbrev pub decreases-add_tasks : goal.decreases-add_tasks
decreases-add_tasks l = task_weights l.stmts.now + 1

abbrev pub decreases-add_task : goal.decreases-add_task
decreases-add_task l = task_weight l.stmt.now

abbrev pub invariant-add_tasks-loop-stmt : goal.invariant-add_tasks-loop-stmt
invariant-add_tasks-loop-stmt l = Added (spec.task_calls l.scope) l.stmts l.stmt-index l.initial.calls l.calls
