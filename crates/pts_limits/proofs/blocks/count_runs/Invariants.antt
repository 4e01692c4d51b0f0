use Rattle.std.proofs.Common.{◌≡◌, map, take}
use Rattle.std.specs.Prelude.{sum}
use Rattle.pts_tree.specs.declared.block.TaskStmt.{TaskStmt}
use Rattle.pts_limits.specs.Amounts.{capped, in_task}
use Rattle.pts_limits.proofs.blocks.count_runs.Given as goal

abbrev pub invariant-loop-task : goal.invariant-loop-task
invariant-loop-task l = l.count ≡ capped (sum (map (λ (x : TaskStmt). (in_task x).own) (take l.task-index l.tasks)))
