use Rattle.std.proofs.Common.{◌≡◌, map, take}
use Rattle.pts_rules.specs.Counts.{greatest}
use Rattle.pts_rules.proofs.Tasks.{task_nesting}
use Rattle.pts_limits.specs.Amounts.{capped}
use Rattle.pts_limits.proofs.blocks.«+nesting».Given as goal

abbrev pub invariant-greatest_nesting-loop-task : goal.invariant-greatest_nesting-loop-task
invariant-greatest_nesting-loop-task l = l.depth ≡ capped (greatest (map task_nesting (take l.task-index l.tasks)))
