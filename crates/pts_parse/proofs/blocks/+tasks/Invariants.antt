use Rattle.std.proofs.Common.{◌≡◌, ◌+◌, ◌*◌, ◌-◌, length}
use Rattle.pts_parse.specs.Reading.{many}
use Rattle.pts_parse.specs.BlockReading as spec
use Rattle.pts_parse.proofs.Repeats.{with_front}
use Rattle.pts_parse.proofs.blocks.+tasks.Given as goal

abbrev pub decreases-block_of : goal.decreases-block_of
decreases-block_of l = l.room * 8 + 2

abbrev pub decreases-braced_tasks : goal.decreases-braced_tasks
decreases-braced_tasks l = l.room * 8 + 1

abbrev pub decreases-run_statement : goal.decreases-run_statement
decreases-run_statement l = l.room * 8 + 3

abbrev pub decreases-task : goal.decreases-task
decreases-task l = l.room * 8 + 5

abbrev pub decreases-task_list : goal.decreases-task_list
decreases-task_list l = l.room * 8 + 6

abbrev pub decreases-task_statement : goal.decreases-task_statement
decreases-task_statement l = l.room * 8 + 4

abbrev pub invariant-task_list-loop-turn : goal.invariant-task_list-loop-turn
invariant-task_list-loop-turn l =
    with_front l.found (many (spec.sees_task l.in_run) (spec.task_of l.in_run l.room (spec.inner_tasks l.room)) (length l.signs - l._turn) l.rest)
    ≡ many (spec.sees_task l.in_run) (spec.task_of l.in_run l.room (spec.inner_tasks l.room)) (length l.signs) l.signs
