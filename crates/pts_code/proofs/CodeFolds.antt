-- What a fold over code is at each form of it.
use Rattle.std.proofs.Common.{◌≡◌, ℕ, List, [], ◌∷◌, map, refl, sym, ap, ◌∙◌}
use Rattle.pts_types.specs.declared.value.Kind.{Kind}
use Rattle.pts_types.specs.declared.value.Value.{Value}
use Rattle.pts_code.specs.declared.code.Code.{Code}
use Rattle.pts_code.specs.declared.code.Code.TheOpen.{Code-F, Step-F}
use Rattle.pts_code.specs.declared.code.Code.TheVariants as c
use Rattle.pts_code.specs.declared.code.Code.TheFolds.{fold-Code, fold-Step, fold-roll-Code, fold_out-Step}
use Rattle.pts_code.specs.declared.code.Step.{Step}

module _ (A B : Type 0) (step : Code-F A B → A) (part_step : Step-F A B → B) where
  -- the fold
  abbrev value_at : Code → A
  value_at = fold-Code A B step part_step

  abbrev part_at : Step → B
  part_at = fold-Step A B step part_step

  pub at-Value : (value : Value) → value_at (c.Value value) ≡ step (Code-F.Value value)
  at-Value value = ap value_at (sym (c.rolls-Value value)) ∙ fold-roll-Code A B step part_step (Code-F.Value value)

  pub at-Local : (place : ℕ) → value_at (c.Local place) ≡ step (Code-F.Local place)
  at-Local place = ap value_at (sym (c.rolls-Local place)) ∙ fold-roll-Code A B step part_step (Code-F.Local place)

  pub at-Note : (place : ℕ) → value_at (c.Note place) ≡ step (Code-F.Note place)
  at-Note place = ap value_at (sym (c.rolls-Note place)) ∙ fold-roll-Code A B step part_step (Code-F.Note place)

  pub at-Throw : (number : ℕ) → value_at (c.Throw number) ≡ step (Code-F.Throw number)
  at-Throw number = ap value_at (sym (c.rolls-Throw number)) ∙ fold-roll-Code A B step part_step (Code-F.Throw number)

  pub at-Call : (number : ℕ) (xs : List Code) → value_at (c.Call number xs) ≡ step (Code-F.Call number (map value_at xs))
  at-Call number xs = ap value_at (sym (c.rolls-Call number xs)) ∙ fold-roll-Code A B step part_step (Code-F.Call number xs)

  pub at-Convert : (to : Kind) (x : Code) → value_at (c.Convert to x) ≡ step (Code-F.Convert to (value_at x))
  at-Convert to x = ap value_at (sym (c.rolls-Convert to x)) ∙ fold-roll-Code A B step part_step (Code-F.Convert to x)

  pub at-Negate : (x : Code) → value_at (c.Negate x) ≡ step (Code-F.Negate (value_at x))
  at-Negate x = ap value_at (sym (c.rolls-Negate x)) ∙ fold-roll-Code A B step part_step (Code-F.Negate x)

  pub at-Not : (x : Code) → value_at (c.Not x) ≡ step (Code-F.Not (value_at x))
  at-Not x = ap value_at (sym (c.rolls-Not x)) ∙ fold-roll-Code A B step part_step (Code-F.Not x)

  pub at-Chain : (x : Code) (xs : List Step) → value_at (c.Chain x xs) ≡ step (Code-F.Chain (value_at x) (map part_at xs))
  at-Chain x xs = ap value_at (sym (c.rolls-Chain x xs)) ∙ fold-roll-Code A B step part_step (Code-F.Chain x xs)

  pub at-All : (xs : List Code) → value_at (c.All xs) ≡ step (Code-F.All (map value_at xs))
  at-All xs = ap value_at (sym (c.rolls-All xs)) ∙ fold-roll-Code A B step part_step (Code-F.All xs)

  pub at-Any : (xs : List Code) → value_at (c.Any xs) ≡ step (Code-F.Any (map value_at xs))
  at-Any xs = ap value_at (sym (c.rolls-Any xs)) ∙ fold-roll-Code A B step part_step (Code-F.Any xs)

  pub at-If : (x : Code) (y : Code) (z : Code) → value_at (c.If x y z) ≡ step (Code-F.If (value_at x) (value_at y) (value_at z))
  at-If x y z = ap value_at (sym (c.rolls-If x y z)) ∙ fold-roll-Code A B step part_step (Code-F.If x y z)

  pub at-part : (x : Step) → part_at x ≡ part_step (record { op = x.op; operand = value_at x.operand })
  at-part x = fold_out-Step A B step part_step x

  pub at-parts : (xs : List Step) → map part_at xs ≡ map (λ x. part_step (record { op = x.op; operand = value_at x.operand })) xs
  at-parts [] = refl
  at-parts (x ∷ xs) = λ i. at-part x i ∷ at-parts xs i

  pub at-steps : (x : Code) (xs : List Step) → value_at (c.Chain x xs) ≡ step (Code-F.Chain (value_at x) (map (λ y. part_step (record { op = y.op; operand = value_at y.operand })) xs))
  at-steps x xs = at-Chain x xs ∙ ap (λ ys. step (Code-F.Chain (value_at x) ys)) (at-parts xs)
