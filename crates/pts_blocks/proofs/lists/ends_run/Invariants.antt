use Rattle.std.proofs.Common.{◌≡◌, false, take}
use Rattle.std.specs.List.{list_any}
use Rattle.pts_blocks.specs.declared.trees.Tree.{out-Tree}
use Rattle.pts_blocks.specs.Trees.{end_in, is_terminated}
use Rattle.pts_blocks.proofs.lists.ends_run.Given as goal

abbrev pub invariant-loop-task : goal.invariant-loop-task
invariant-loop-task l = list_any (λ node. is_terminated (end_in node)) (take l.task-index (out-Tree l.tree).tasks) ≡ false
