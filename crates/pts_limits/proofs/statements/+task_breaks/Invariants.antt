use Rattle.std.proofs.Common.{◌≡◌, false, take}
use Rattle.std.specs.List.{list_any}
use Rattle.pts_tree.specs.declared.block.TaskStmt.{TaskStmt}
use Rattle.pts_rules.proofs.Tasks.{task_statements}
use Rattle.pts_limits.specs.Rules.{breaks}
use Rattle.pts_limits.proofs.statements.«+task_breaks».Given as goal

abbrev pub invariant-some_task_breaks-loop-task : goal.invariant-some_task_breaks-loop-task
invariant-some_task_breaks-loop-task l = list_any (λ (x : TaskStmt). list_any (breaks l.rule l.scope) (task_statements x)) (take l.task-index l.tasks) ≡ false
