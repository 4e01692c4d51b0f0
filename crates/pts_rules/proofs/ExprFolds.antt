-- What a fold over an expression is at each form of it.
use Rattle.std.proofs.Common.{◌≡◌, ℕ, List, [], ◌∷◌, map, refl, sym, ap, ◌∙◌}
use Rattle.pts_types.specs.declared.value.Kind.{Kind}
use Rattle.pts_types.specs.declared.operation.ScalarOp.{ScalarOp}
use Rattle.pts_tree.specs.declared.expr.Expr.{Expr}
use Rattle.pts_tree.specs.declared.expr.Expr.TheOpen.{Expr-F, ChainPart-F}
use Rattle.pts_tree.specs.declared.expr.Expr.TheVariants as e
use Rattle.pts_tree.specs.declared.expr.Expr.TheFolds.{fold-Expr, fold-ChainPart, fold-roll-Expr, fold_out-ChainPart}
use Rattle.pts_tree.specs.declared.expr.ChainPart.{ChainPart}

module _ (A B : Type 0) (step : Expr-F A B → A) (part_step : ChainPart-F A B → B) where
  -- the fold
  abbrev value : Expr → A
  value = fold-Expr A B step part_step

  abbrev part_value : ChainPart → B
  part_value = fold-ChainPart A B step part_step

  pub at-Number : (n : ℕ) → value (e.Number n) ≡ step (Expr-F.Number n)
  at-Number n = ap value (sym (e.rolls-Number n)) ∙ fold-roll-Expr A B step part_step (Expr-F.Number n)

  pub at-True : value e.True ≡ step Expr-F.True
  at-True = ap value (sym e.rolls-True) ∙ fold-roll-Expr A B step part_step Expr-F.True

  pub at-False : value e.False ≡ step Expr-F.False
  at-False = ap value (sym e.rolls-False) ∙ fold-roll-Expr A B step part_step Expr-F.False

  pub at-Name : (name : List ℕ) → value (e.Name name) ≡ step (Expr-F.Name name)
  at-Name name = ap value (sym (e.rolls-Name name)) ∙ fold-roll-Expr A B step part_step (Expr-F.Name name)

  pub at-Call : (name : List ℕ) (xs : List Expr) → value (e.Call name xs) ≡ step (Expr-F.Call name (map value xs))
  at-Call name xs = ap value (sym (e.rolls-Call name xs)) ∙ fold-roll-Expr A B step part_step (Expr-F.Call name xs)

  pub at-Element : (name : List ℕ) (x : Expr) → value (e.Element name x) ≡ step (Expr-F.Element name (value x))
  at-Element name x = ap value (sym (e.rolls-Element name x)) ∙ fold-roll-Expr A B step part_step (Expr-F.Element name x)

  pub at-Convert : (to : Kind) (x : Expr) → value (e.Convert to x) ≡ step (Expr-F.Convert to (value x))
  at-Convert to x = ap value (sym (e.rolls-Convert to x)) ∙ fold-roll-Expr A B step part_step (Expr-F.Convert to x)

  pub at-Throw : (n : ℕ) → value (e.Throw n) ≡ step (Expr-F.Throw n)
  at-Throw n = ap value (sym (e.rolls-Throw n)) ∙ fold-roll-Expr A B step part_step (Expr-F.Throw n)

  pub at-Paren : (x : Expr) → value (e.Paren x) ≡ step (Expr-F.Paren (value x))
  at-Paren x = ap value (sym (e.rolls-Paren x)) ∙ fold-roll-Expr A B step part_step (Expr-F.Paren x)

  pub at-Minus : (x : Expr) → value (e.Minus x) ≡ step (Expr-F.Minus (value x))
  at-Minus x = ap value (sym (e.rolls-Minus x)) ∙ fold-roll-Expr A B step part_step (Expr-F.Minus x)

  pub at-Not : (x : Expr) → value (e.Not x) ≡ step (Expr-F.Not (value x))
  at-Not x = ap value (sym (e.rolls-Not x)) ∙ fold-roll-Expr A B step part_step (Expr-F.Not x)

  pub at-Chain : (x : Expr) (parts : List ChainPart) → value (e.Chain x parts) ≡ step (Expr-F.Chain (value x) (map part_value parts))
  at-Chain x parts = ap value (sym (e.rolls-Chain x parts)) ∙ fold-roll-Expr A B step part_step (Expr-F.Chain x parts)

  pub at-Compare : (op : ScalarOp) (x y : Expr) → value (e.Compare op x y) ≡ step (Expr-F.Compare op (value x) (value y))
  at-Compare op x y = ap value (sym (e.rolls-Compare op x y)) ∙ fold-roll-Expr A B step part_step (Expr-F.Compare op x y)

  pub at-All : (xs : List Expr) → value (e.All xs) ≡ step (Expr-F.All (map value xs))
  at-All xs = ap value (sym (e.rolls-All xs)) ∙ fold-roll-Expr A B step part_step (Expr-F.All xs)

  pub at-Any : (xs : List Expr) → value (e.Any xs) ≡ step (Expr-F.Any (map value xs))
  at-Any xs = ap value (sym (e.rolls-Any xs)) ∙ fold-roll-Expr A B step part_step (Expr-F.Any xs)

  pub at-If : (x y z : Expr) → value (e.If x y z) ≡ step (Expr-F.If (value x) (value y) (value z))
  at-If x y z = ap value (sym (e.rolls-If x y z)) ∙ fold-roll-Expr A B step part_step (Expr-F.If x y z)

  pub at-part : (x : ChainPart) → part_value x ≡ part_step (record { op = x.op; operand = value x.operand })
  at-part x = fold_out-ChainPart A B step part_step x

-- where a part is what its operand is
module _ (A : Type 0) (step : Expr-F A A → A) where
  abbrev plain : Expr → A
  plain = fold-Expr A A step (λ part. part.operand)

  at-parts : (parts : List ChainPart) → map (part_value A A step (λ part. part.operand)) parts ≡ map (λ y. plain y.operand) parts
  at-parts [] = refl
  at-parts (x ∷ xs) = λ i. at-part A A step (λ part. part.operand) x i ∷ at-parts xs i

  pub at-chain : (x : Expr) (parts : List ChainPart) → plain (e.Chain x parts) ≡ step (Expr-F.Chain (plain x) (map (λ y. plain y.operand) parts))
  at-chain x parts = at-Chain A A step (λ part. part.operand) x parts ∙ ap (λ xs. step (Expr-F.Chain (plain x) xs)) (at-parts parts)
