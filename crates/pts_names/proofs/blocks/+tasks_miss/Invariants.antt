use Rattle.std.proofs.Common.{◌≡◌}
use Rattle.pts_names.specs.Entered.{task_names}
use Rattle.pts_names.proofs.Missing.{Looked}
use Rattle.pts_names.proofs.blocks.«+tasks_miss».Given as goal

abbrev pub invariant-tasks_miss-loop-task : goal.invariant-tasks_miss-loop-task
invariant-tasks_miss-loop-task l = Looked task_names l.initial.scope l.tasks l.task-index × (l.scope ≡ l.initial.scope)
