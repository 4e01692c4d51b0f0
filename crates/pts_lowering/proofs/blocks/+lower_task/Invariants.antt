use Rattle.pts_lowering.proofs.BlockForms.{Lowering}
use Rattle.pts_lowering.proofs.blocks.«+lower_task».Given as goal

abbrev pub invariant-lower_tasks-loop-stmt : goal.invariant-lower_tasks-loop-stmt
invariant-lower_tasks-loop-stmt l = Lowering l.item l.stmts l.stmt-index l.initial.at l.at l.initial.blocks l.blocks l.tasks
