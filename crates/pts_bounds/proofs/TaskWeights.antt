-- How large the statements of blocks are: a part is smaller than the whole.
use Rattle.std.proofs.Common.{◌≡◌, ℕ, zero, suc, ◌+◌, ◌<◌, ◌≤◌, List, [], ◌∷◌, length, map, get_or, ap, arith}
use Rattle.pts_tree.specs.declared.block.Block.{Block}
use Rattle.pts_tree.specs.declared.block.TaskStmt.{TaskStmt}
use Rattle.pts_tree.specs.declared.block.TaskStmt.TheOpen.{TaskStmt-F}
use Rattle.pts_tree.specs.declared.block.TaskStmt.TheVariants as t
use Rattle.pts_tree.specs.declared.block.TaskStmt.TheFolds.{fold-Block, fold-TaskStmt}
use Rattle.pts_rules.proofs.StatementFolds.{at-Run, at-Block, at-body}

abbrev pub total : List ℕ → ℕ
total [] = 0
total (n ∷ ns) = n + total ns

abbrev pub weight_step : TaskStmt-F ℕ ℕ → ℕ
weight_step (TaskStmt-F.Run xs) = 1 + total xs
weight_step (TaskStmt-F.Block x) = 1 + x
weight_step _ = 1

unfoldable pub weight : TaskStmt → ℕ
weight = fold-TaskStmt ℕ ℕ weight_step (λ x. 1 + total x.body)

unfoldable pub block_weight : Block → ℕ
block_weight = fold-Block ℕ ℕ weight_step (λ x. 1 + total x.body)

abbrev pub weights : List TaskStmt → ℕ
weights xs = total (map weight xs)

pub weight-Run : (xs : List TaskStmt) → weight (t.Run xs) ≡ 1 + weights xs
unfolding weight
weight-Run xs = at-Run ℕ ℕ weight_step (λ x. 1 + total x.body) xs

pub weight-Block : (x : Block) → weight (t.Block x) ≡ 1 + block_weight x
unfolding weight block_weight
weight-Block x = at-Block ℕ ℕ weight_step (λ x. 1 + total x.body) x

pub weight-body : (x : Block) → block_weight x ≡ 1 + weights x.body
unfolding weight block_weight
weight-body x = at-body ℕ ℕ weight_step (λ x. 1 + total x.body) x

pub weight_below : (xs : List TaskStmt) (n : ℕ) (x : TaskStmt) → n < length xs → x ≡ get_or xs n x → weight x ≤ weights xs
weight_below [] n x within is = absurd (omega (arith, within))
weight_below (y ∷ ys) zero x within is = omega (arith, ap weight is)
weight_below (y ∷ ys) (suc n) x within is = omega (arith, weight_below ys n x (omega (arith, within)) is)
