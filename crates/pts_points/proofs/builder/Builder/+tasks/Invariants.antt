use Rattle.std.specs.Prelude.{◌≡◌, ◌+◌, take, flat_map}
use Rattle.pts_points.specs.Building.{task_statements, with_statements}
use Rattle.pts_points.proofs.Weights.{task_weight, task_weights}
use Rattle.pts_points.proofs.builder.Builder.«+tasks».Given as goal

abbrev pub decreases-add_tasks : goal.decreases-add_tasks
decreases-add_tasks l = task_weights l.stmts.now + 1

abbrev pub decreases-add_task : goal.decreases-add_task
decreases-add_task l = task_weight l.stmt.now

abbrev pub invariant-add_tasks-loop-stmt : goal.invariant-add_tasks-loop-stmt
invariant-add_tasks-loop-stmt l = l.self ≡ with_statements l.scope l.initial.self (flat_map task_statements (take l.stmt-index l.stmts))
