use Rattle.std.proofs.Common.{◌≡◌, ◌+◌, ◌*◌, take}
use Rattle.pts_tree.specs.declared.block.TaskStmt.{TaskStmt}
use Rattle.pts_rules.proofs.Tasks.{task_statements}
use Rattle.pts_bounds.specs.Firsts.{soonest}
use Rattle.pts_bounds.specs.Walks.{first_in}
use Rattle.pts_bounds.proofs.TaskWeights.{weight, block_weight, weights}
use Rattle.pts_bounds.proofs.items.«+task_first».Given as goal

abbrev pub invariant-tasks_first-loop-task : goal.invariant-tasks_first-loop-task
invariant-tasks_first-loop-task l = l.first ≡ soonest (λ (x : TaskStmt). soonest (first_in l.scope) (task_statements x)) (take l.task-index l.tasks)

abbrev pub decreases-tasks_first : goal.decreases-tasks_first
decreases-tasks_first l = 2 * weights l.tasks.now + 1

abbrev pub decreases-task_first : goal.decreases-task_first
decreases-task_first l = 2 * weight l.task.now

abbrev pub decreases-block_first : goal.decreases-block_first
decreases-block_first l = 2 * block_weight l.block.now + 1
