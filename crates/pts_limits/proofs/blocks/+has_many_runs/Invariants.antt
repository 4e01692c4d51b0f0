use Rattle.std.proofs.Common.{◌≡◌, false, take}
use Rattle.std.specs.Prelude.{nat_lt}
use Rattle.std.specs.List.{list_any}
use Rattle.pts_tree.specs.declared.block.TaskStmt.{TaskStmt}
use Rattle.pts_limits.specs.Amounts.{task_runs}
use Rattle.pts_limits.proofs.blocks.«+has_many_runs».Given as goal

abbrev pub invariant-many_runs_inside-loop-task : goal.invariant-many_runs_inside-loop-task
invariant-many_runs_inside-loop-task l = list_any (λ (x : TaskStmt). list_any (nat_lt 64) (task_runs x)) (take l.task-index l.tasks) ≡ false
