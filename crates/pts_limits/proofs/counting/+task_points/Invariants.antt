use Rattle.std.proofs.Common.{◌≡◌, map, take}
use Rattle.std.specs.Prelude.{sum}
use Rattle.pts_tree.specs.declared.block.TaskStmt.{TaskStmt}
use Rattle.pts_rules.specs.Counts.{statement_points}
use Rattle.pts_rules.proofs.Tasks.{task_statements}
use Rattle.pts_limits.specs.Amounts.{capped}
use Rattle.pts_limits.proofs.counting.«+task_points».Given as goal

abbrev pub invariant-points_of_tasks-loop-task : goal.invariant-points_of_tasks-loop-task
invariant-points_of_tasks-loop-task l = l.count ≡ capped (sum (map (λ (x : TaskStmt). sum (map statement_points (task_statements x))) (take l.task-index l.tasks)))
