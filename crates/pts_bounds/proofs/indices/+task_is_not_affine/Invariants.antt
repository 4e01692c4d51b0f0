use Rattle.std.proofs.Common.{◌≡◌, false, take}
use Rattle.std.specs.List.{list_any}
use Rattle.pts_tree.specs.declared.block.TaskStmt.{TaskStmt}
use Rattle.pts_rules.proofs.Tasks.{task_statements}
use Rattle.pts_rules.specs.Indices.{has_not_affine}
use Rattle.pts_bounds.proofs.indices.+task_is_not_affine.Given as goal

abbrev pub invariant-tasks_are_not_affine-loop-task : goal.invariant-tasks_are_not_affine-loop-task
invariant-tasks_are_not_affine-loop-task l = list_any (λ (x : TaskStmt). list_any (has_not_affine l.scope) (task_statements x)) (take l.task-index l.tasks) ≡ false
