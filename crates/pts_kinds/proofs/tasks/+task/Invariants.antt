use Rattle.std.specs.Prelude.{◌≡◌, drop, flat_map}
use Rattle.std.specs.List.{list_all}
use Rattle.pts_rules.specs.Mistyped.{statement_right}
use Rattle.pts_rules.proofs.Tasks.{task_statements}
use Rattle.pts_kinds.proofs.tasks.«+task».Given as goal

abbrev pub invariant-tasks_right-loop-task : goal.invariant-tasks_right-loop-task
invariant-tasks_right-loop-task l =
    (list_all (statement_right l.initial.scope) (flat_map task_statements (drop l.task-index l.tasks)) ≡ list_all (statement_right l.initial.scope) (flat_map task_statements l.tasks))
    × (l.scope ≡ l.initial.scope)
