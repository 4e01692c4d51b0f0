use Rattle.std.proofs.Common.{ap, arith}
use Rattle.pts_bounds.proofs.Soonest.{next_soonest}
use Rattle.pts_bounds.proofs.Statements.{run_holds, block_holds, body_holds, element_holds}
use Rattle.pts_bounds.proofs.TaskWeights.{weight, weights, weight-Run, weight-Block, weight-body, weight_below}
use Rattle.pts_rules.specs.Mistyped.{statement_right}
use Rattle.pts_bounds.proofs.items.+task_first.Goals as goal

pub tasks_first-loop-task-preserved : goal.tasks_first-loop-task-preserved
tasks_first-loop-task-preserved t c = next_soonest _ _ _ _ _ _ _ c.loop-task-test.true c.task-item.is c.loop-task.invariant c.task_first.ensures c.sooner-first.ensures

pub tasks_first-task_first-requires : goal.tasks_first-task_first-requires
tasks_first-task_first-requires t c = (
  omega (arith, c.decreases, weight_below c.args.tasks.now c.loop-task.task-index c.task-item.result c.loop-task-test.true c.task-item.is),
  element_holds (statement_right c.args.scope.now) c.args.tasks.now c.loop-task.task-index c.task-item.result c.loop-task-test.true c.task-item.is c.requires,
)

pub task_first-tasks_first-requires : goal.task_first-tasks_first-requires
task_first-tasks_first-requires t c = (
  omega (arith, c.decreases, ap weight c.in-Run.is, weight-Run c.in-Run.tasks, ap weights c.as_slice.ensures),
  run_holds (statement_right c.args.scope.now) c.args.task.now c.in-Run.tasks c.as_slice.result.now c.in-Run.is c.as_slice.ensures c.requires,
)

pub task_first-block_first-requires : goal.task_first-block_first-requires
task_first-block_first-requires t c = (
  omega (arith, c.decreases, ap weight c.in-Block.is, weight-Block c.in-Block.block),
  block_holds (statement_right c.args.scope.now) c.args.task.now c.in-Block.block c.in-Block.is c.requires,
)

pub block_first-tasks_first-requires : goal.block_first-tasks_first-requires
block_first-tasks_first-requires t c = (
  omega (arith, c.decreases, weight-body c.args.block.now, ap weights c.as_slice.ensures),
  body_holds (statement_right c.args.scope.now) c.args.block.now c.as_slice.result.now c.as_slice.ensures c.requires,
)
