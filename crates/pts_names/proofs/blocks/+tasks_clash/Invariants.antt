use Rattle.std.proofs.Common.{◌≡◌}
use Rattle.pts_names.proofs.TaskNames.{Cleared}
use Rattle.pts_names.proofs.blocks.«+tasks_clash».Given as goal

abbrev pub invariant-tasks_clash-loop-task : goal.invariant-tasks_clash-loop-task
invariant-tasks_clash-loop-task l = Cleared l.initial.scope l.tasks l.task-index × (l.scope ≡ l.initial.scope)
