use Rattle.pts_limits.proofs.Lists.{deeper_capped}
use Rattle.pts_limits.proofs.blocks.+nesting.Goals as goal

pub greatest_nesting-loop-task-preserved : goal.greatest_nesting-loop-task-preserved
greatest_nesting-loop-task-preserved t c = deeper_capped _ _ _ _ _ _ _ c.loop-task-test.true c.task-item.is c.loop-task.invariant c.nesting_of.ensures c.max-depth.ensures
