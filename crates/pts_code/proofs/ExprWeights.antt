-- How far compiling an expression may go.
use Rattle.std.proofs.Common.{◌≡◌, ℕ, zero, suc, ◌+◌, ◌<◌, List, [], ◌∷◌, map, length, get_or, ap, arith}
use Rattle.pts_types.specs.declared.value.Kind.{Kind}
use Rattle.pts_types.specs.declared.operation.ScalarOp.{ScalarOp}
use Rattle.pts_tree.specs.declared.expr.Expr.{Expr}
use Rattle.pts_tree.specs.declared.expr.Expr.TheOpen.{Expr-F}
use Rattle.pts_tree.specs.declared.expr.Expr.TheVariants as e
use Rattle.pts_tree.specs.declared.expr.Expr.TheFolds.{fold-Expr}
use Rattle.pts_tree.specs.declared.expr.ChainPart.{ChainPart}
use Rattle.pts_rules.proofs.ExprFolds.{at-Call, at-Convert, at-Paren, at-Minus, at-Not, at-chain, at-Compare, at-All, at-Any, at-If}
use Rattle.pts_code.proofs.Weights.{total}

abbrev pub weight_step : Expr-F ℕ ℕ → ℕ
weight_step (Expr-F.Call name xs) = 3 + total xs
weight_step (Expr-F.Convert to x) = 3 + x
weight_step (Expr-F.Paren x) = 3 + x
weight_step (Expr-F.Minus x) = 3 + x
weight_step (Expr-F.Not x) = 3 + x
weight_step (Expr-F.Chain x xs) = 3 + x + total xs
weight_step (Expr-F.Compare op x y) = 3 + x + y
weight_step (Expr-F.All xs) = 3 + total xs
weight_step (Expr-F.Any xs) = 3 + total xs
weight_step (Expr-F.If x y z) = 3 + x + y + z
weight_step _ = 1

unfoldable pub weight : Expr → ℕ
weight = fold-Expr ℕ ℕ weight_step (λ part. part.operand)

abbrev pub weights : List Expr → ℕ
weights xs = total (map weight xs)

abbrev pub part_weights : List ChainPart → ℕ
part_weights parts = total (map (λ y. weight y.operand) parts)

pub weight_below : (xs : List Expr) (n : ℕ) (x : Expr) → n < length xs → x ≡ get_or xs n x → weight x < weights xs
weight_below [] n x within is = absurd (omega (arith, within))
weight_below (y ∷ ys) zero x within is = omega (arith, ap weight is)
weight_below (y ∷ ys) (suc n) x within is = omega (arith, weight_below ys n x (omega (arith, within)) is)

pub part_weight_below : (parts : List ChainPart) (n : ℕ) (x : ChainPart) → n < length parts → x ≡ get_or parts n x → weight x.operand < part_weights parts
part_weight_below [] n x within is = absurd (omega (arith, within))
part_weight_below (y ∷ ys) zero x within is = omega (arith, ap (λ (z : ChainPart). weight z.operand) is)
part_weight_below (y ∷ ys) (suc n) x within is = omega (arith, part_weight_below ys n x (omega (arith, within)) is)

pub weight-Call : (name : List ℕ) (xs : List Expr) → weight (e.Call name xs) ≡ weight_step (Expr-F.Call name (map weight xs))
unfolding weight
weight-Call name xs = at-Call ℕ ℕ weight_step (λ part. part.operand) name xs

pub weight-Convert : (to : Kind) (x : Expr) → weight (e.Convert to x) ≡ weight_step (Expr-F.Convert to (weight x))
unfolding weight
weight-Convert to x = at-Convert ℕ ℕ weight_step (λ part. part.operand) to x

pub weight-Paren : (x : Expr) → weight (e.Paren x) ≡ weight_step (Expr-F.Paren (weight x))
unfolding weight
weight-Paren x = at-Paren ℕ ℕ weight_step (λ part. part.operand) x

pub weight-Minus : (x : Expr) → weight (e.Minus x) ≡ weight_step (Expr-F.Minus (weight x))
unfolding weight
weight-Minus x = at-Minus ℕ ℕ weight_step (λ part. part.operand) x

pub weight-Not : (x : Expr) → weight (e.Not x) ≡ weight_step (Expr-F.Not (weight x))
unfolding weight
weight-Not x = at-Not ℕ ℕ weight_step (λ part. part.operand) x

pub weight-Chain : (x : Expr) (parts : List ChainPart) → weight (e.Chain x parts) ≡ weight_step (Expr-F.Chain (weight x) (map (λ y. weight y.operand) parts))
unfolding weight
weight-Chain x parts = at-chain ℕ weight_step x parts

pub weight-Compare : (op : ScalarOp) (x : Expr) (y : Expr) → weight (e.Compare op x y) ≡ weight_step (Expr-F.Compare op (weight x) (weight y))
unfolding weight
weight-Compare op x y = at-Compare ℕ ℕ weight_step (λ part. part.operand) op x y

pub weight-All : (xs : List Expr) → weight (e.All xs) ≡ weight_step (Expr-F.All (map weight xs))
unfolding weight
weight-All xs = at-All ℕ ℕ weight_step (λ part. part.operand) xs

pub weight-Any : (xs : List Expr) → weight (e.Any xs) ≡ weight_step (Expr-F.Any (map weight xs))
unfolding weight
weight-Any xs = at-Any ℕ ℕ weight_step (λ part. part.operand) xs

pub weight-If : (x : Expr) (y : Expr) (z : Expr) → weight (e.If x y z) ≡ weight_step (Expr-F.If (weight x) (weight y) (weight z))
unfolding weight
weight-If x y z = at-If ℕ ℕ weight_step (λ part. part.operand) x y z
