-- How far an evaluation may go: through the codes that it may call, and through its own.
use Rattle.std.proofs.Common.{◌≡◌, ℕ, zero, suc, ◌+◌, ◌<◌, List, [], ◌∷◌, map, length, get_or, take, ap, arith}
use Rattle.pts_types.specs.declared.value.Kind.{Kind}
use Rattle.pts_code.specs.declared.code.Code.{Code}
use Rattle.pts_code.specs.declared.code.Code.TheOpen.{Code-F}
use Rattle.pts_code.specs.declared.code.Code.TheVariants as c
use Rattle.pts_code.specs.declared.code.Code.TheFolds.{fold-Code}
use Rattle.pts_code.specs.declared.code.Step.{Step}
use Rattle.pts_code.proofs.CodeFolds.{at-Call, at-Convert, at-Negate, at-Not, at-steps, at-All, at-Any, at-If}

-- one more for each
abbrev pub total : List ℕ → ℕ
total [] = 0
total (x ∷ xs) = 1 + x + total xs

abbrev pub weight_step : Code-F ℕ ℕ → ℕ
weight_step (Code-F.Call number xs) = 2 + total xs
weight_step (Code-F.Convert to x) = 2 + x
weight_step (Code-F.Negate x) = 2 + x
weight_step (Code-F.Not x) = 2 + x
weight_step (Code-F.Chain x xs) = 3 + x + total xs
weight_step (Code-F.All xs) = 1 + total xs
weight_step (Code-F.Any xs) = 1 + total xs
weight_step (Code-F.If x y z) = 2 + x + y + z
weight_step _ = 1

unfoldable pub weight : Code → ℕ
weight = fold-Code ℕ ℕ weight_step (λ step. step.operand)

abbrev pub weights : List Code → ℕ
weights xs = total (map weight xs)

abbrev pub step_weights : List Step → ℕ
step_weights xs = total (map (λ x. weight x.operand) xs)

pub weight-Call : (number : ℕ) (xs : List Code) → weight (c.Call number xs) ≡ weight_step (Code-F.Call number (map weight xs))
unfolding weight
weight-Call number xs = at-Call ℕ ℕ weight_step (λ step. step.operand) number xs

pub weight-Convert : (to : Kind) (x : Code) → weight (c.Convert to x) ≡ weight_step (Code-F.Convert to (weight x))
unfolding weight
weight-Convert to x = at-Convert ℕ ℕ weight_step (λ step. step.operand) to x

pub weight-Negate : (x : Code) → weight (c.Negate x) ≡ weight_step (Code-F.Negate (weight x))
unfolding weight
weight-Negate x = at-Negate ℕ ℕ weight_step (λ step. step.operand) x

pub weight-Not : (x : Code) → weight (c.Not x) ≡ weight_step (Code-F.Not (weight x))
unfolding weight
weight-Not x = at-Not ℕ ℕ weight_step (λ step. step.operand) x

pub weight-Chain : (x : Code) (xs : List Step) → weight (c.Chain x xs) ≡ weight_step (Code-F.Chain (weight x) (map (λ y. weight y.operand) xs))
unfolding weight
weight-Chain x xs = at-steps ℕ ℕ weight_step (λ step. step.operand) x xs

pub weight-All : (xs : List Code) → weight (c.All xs) ≡ weight_step (Code-F.All (map weight xs))
unfolding weight
weight-All xs = at-All ℕ ℕ weight_step (λ step. step.operand) xs

pub weight-Any : (xs : List Code) → weight (c.Any xs) ≡ weight_step (Code-F.Any (map weight xs))
unfolding weight
weight-Any xs = at-Any ℕ ℕ weight_step (λ step. step.operand) xs

pub weight-If : (x : Code) (y : Code) (z : Code) → weight (c.If x y z) ≡ weight_step (Code-F.If (weight x) (weight y) (weight z))
unfolding weight
weight-If x y z = at-If ℕ ℕ weight_step (λ step. step.operand) x y z

pub ruleset weight_by_form = (weight-Call, weight-Convert, weight-Negate, weight-Not, weight-Chain, weight-All, weight-Any, weight-If)

pub weight_below : (xs : List Code) (n : ℕ) (x : Code) → n < length xs → x ≡ get_or xs n x → weight x < weights xs
weight_below [] n x within is = absurd (omega (arith, within))
weight_below (y ∷ ys) zero x within is = omega (arith, ap weight is)
weight_below (y ∷ ys) (suc n) x within is = omega (arith, weight_below ys n x (omega (arith, within)) is)

pub step_weight_below : (xs : List Step) (n : ℕ) (x : Step) → n < length xs → x ≡ get_or xs n x → weight x.operand < step_weights xs
step_weight_below [] n x within is = absurd (omega (arith, within))
step_weight_below (y ∷ ys) zero x within is = omega (arith, ap (λ (z : Step). weight z.operand) is)
step_weight_below (y ∷ ys) (suc n) x within is = omega (arith, step_weight_below ys n x (omega (arith, within)) is)

-- a code and those before it
pub weights_before : (xs : List Code) (n : ℕ) (x : Code) → n < length xs → x ≡ get_or xs n x → weights (take n xs) + weight x < weights xs
weights_before [] n x within is = absurd (omega (arith, within))
weights_before (y ∷ ys) zero x within is = omega (arith, ap weight is)
weights_before (y ∷ ys) (suc n) x within is = omega (arith, weights_before ys n x (omega (arith, within)) is)
