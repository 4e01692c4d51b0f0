use Rattle.std.proofs.Common.{◌≡◌, take}
use Rattle.std.specs.Prelude.{flat_map}
use Rattle.pts_blocks.specs.declared.trees.Tree.{out-Tree}
use Rattle.pts_blocks.specs.Trees.{end_in, thrown}
use Rattle.pts_blocks.proofs.lists.exceptions.Given as goal

abbrev pub invariant-loop-task : goal.invariant-loop-task
invariant-loop-task l = l.list ≡ flat_map (λ node. thrown (end_in node)) (take l.task-index (out-Tree l.tree).tasks)
