-- How much is left to do in statements of a block.
use Rattle.std.proofs.Common.{◌≡◌, ℕ, zero, suc, ◌+◌, ◌<◌, ◌≤◌, List, [], ◌∷◌, map, length, get_or, ap, ◌∙◌, arith}
use Rattle.pts_tree.specs.declared.block.Block.{Block}
use Rattle.pts_tree.specs.declared.block.TaskStmt.{TaskStmt}
use Rattle.pts_tree.specs.declared.block.TaskStmt.TheOpen.{TaskStmt-F, Block-F}
use Rattle.pts_tree.specs.declared.block.TaskStmt.TheVariants as t
use Rattle.pts_tree.specs.declared.block.TaskStmt.TheFolds.{fold-TaskStmt}
use Rattle.pts_rules.proofs.StatementFolds.{at-Run, at-Block, at-body}

abbrev total : List ℕ → ℕ
total [] = 0
total (n ∷ ns) = n + total ns

abbrev task_step : TaskStmt-F ℕ ℕ → ℕ
task_step (TaskStmt-F.Run ns) = 3 + total ns
task_step (TaskStmt-F.Block n) = 3 + n
task_step _ = 1

abbrev block_step : Block-F ℕ ℕ → ℕ
block_step x = total x.body

-- the statements inside a statement of a block
unfoldable pub task_weight : TaskStmt → ℕ
task_weight = fold-TaskStmt ℕ ℕ task_step block_step

abbrev pub task_weights : List TaskStmt → ℕ
task_weights xs = total (map task_weight xs)

pub task_weight_below : (xs : List TaskStmt) (at : ℕ) (x : TaskStmt) → at < length xs → x ≡ get_or xs at x → task_weight x ≤ task_weights xs
task_weight_below [] at x within is = absurd (omega (arith, within))
task_weight_below (y ∷ ys) zero x within is = let same : task_weight x ≡ task_weight y = ap task_weight is in omega (arith, same)
task_weight_below (y ∷ ys) (suc at) x within is = let h = task_weight_below ys at x (omega (arith, within)) is in omega (arith, h)

pub weight-Run : (xs : List TaskStmt) → task_weight (t.Run xs) ≡ 3 + task_weights xs
unfolding task_weight
weight-Run xs = at-Run ℕ ℕ task_step block_step xs

pub weight-Block : (x : Block) → task_weight (t.Block x) ≡ 3 + task_weights x.body
unfolding task_weight
weight-Block x = at-Block ℕ ℕ task_step block_step x ∙ ap (λ n. 3 + n) (at-body ℕ ℕ task_step block_step x)
