-- What the names of an expression are, form by form, and whether one of them is not in scope.
use Rattle.std.proofs.Common.{◌≡◌, ℕ, Bool, false, List, [], ◌∷◌, ◌++◌, map, refl, ap, ◌∙◌}
use Rattle.std.specs.Prelude.{◌||◌, flat_map}
use Rattle.pts_types.specs.declared.value.Kind.{Kind}
use Rattle.pts_types.specs.declared.operation.ScalarOp.{ScalarOp}
use Rattle.pts_tree.specs.declared.expr.Expr.{Expr}
use Rattle.pts_tree.specs.declared.expr.Expr.TheVariants as e
use Rattle.pts_tree.specs.declared.expr.ChainPart.{ChainPart}
use Rattle.pts_rules.specs.Known.{Scope}
use Rattle.pts_rules.specs.Parts.{Name, expr_names}
use Rattle.pts_rules.proofs.ExprNames as by
use Rattle.pts_names.specs.Entered.{is_missing, misses}
use Rattle.pts_names.proofs.Missing.{misses_none, misses_more, misses_both}

-- lists that are made of parts, and then joined
pub joined : {A B : Type 0} (f : A → List B) (xs : List A) → flat_map (λ y. y) (map f xs) ≡ flat_map f xs
joined f [] = refl
joined f (x ∷ xs) = ap (λ ys. f x ++ ys) (joined f xs)

module _ (scope : Scope) where
  -- the answer for an expression
  abbrev missed : Expr → Bool
  missed x = misses scope (expr_names x)

  misses_joined : {A : Type 0} (f : A → List Name) (xs : List A) → misses scope (flat_map (λ y. y) (map f xs)) ≡ misses scope (flat_map f xs)
  misses_joined f xs = ap (misses scope) (joined f xs)

  pub missed-Number : (n : ℕ) → missed (e.Number n) ≡ false
  missed-Number n = ap (misses scope) (by.names-Number n) ∙ misses_none scope

  pub missed-True : missed e.True ≡ false
  missed-True = ap (misses scope) by.names-True ∙ misses_none scope

  pub missed-False : missed e.False ≡ false
  missed-False = ap (misses scope) by.names-False ∙ misses_none scope

  pub missed-Throw : (n : ℕ) → missed (e.Throw n) ≡ false
  missed-Throw n = ap (misses scope) (by.names-Throw n) ∙ misses_none scope

  pub missed-Name : (name : List ℕ) → missed (e.Name name) ≡ (is_missing scope name || false)
  missed-Name name = ap (misses scope) (by.names-Name name) ∙ misses_more scope name [] ∙ ap (λ b. is_missing scope name || b) (misses_none scope)

  pub missed-Call : (name : List ℕ) (xs : List Expr) → missed (e.Call name xs) ≡ (is_missing scope name || misses scope (flat_map expr_names xs))
  missed-Call name xs =
      ap (misses scope) (by.names-Call name xs) ∙ misses_more scope name (flat_map (λ y. y) (map expr_names xs))
      ∙ ap (λ b. is_missing scope name || b) (misses_joined expr_names xs)

  pub missed-Element : (name : List ℕ) (x : Expr) → missed (e.Element name x) ≡ (is_missing scope name || missed x)
  missed-Element name x = ap (misses scope) (by.names-Element name x) ∙ misses_more scope name (expr_names x)

  pub missed-Convert : (to : Kind) (x : Expr) → missed (e.Convert to x) ≡ missed x
  missed-Convert to x = ap (misses scope) (by.names-Convert to x)

  pub missed-Paren : (x : Expr) → missed (e.Paren x) ≡ missed x
  missed-Paren x = ap (misses scope) (by.names-Paren x)

  pub missed-Minus : (x : Expr) → missed (e.Minus x) ≡ missed x
  missed-Minus x = ap (misses scope) (by.names-Minus x)

  pub missed-Not : (x : Expr) → missed (e.Not x) ≡ missed x
  missed-Not x = ap (misses scope) (by.names-Not x)

  pub missed-Chain : (x : Expr) (parts : List ChainPart) → missed (e.Chain x parts) ≡ (missed x || misses scope (flat_map (λ part. expr_names part.operand) parts))
  missed-Chain x parts =
      ap (misses scope) (by.names-Chain x parts) ∙ misses_both scope (expr_names x) (flat_map (λ y. y) (map (λ part. expr_names part.operand) parts))
      ∙ ap (λ b. missed x || b) (misses_joined (λ part. expr_names part.operand) parts)

  pub missed-Compare : (op : ScalarOp) (x y : Expr) → missed (e.Compare op x y) ≡ (missed x || missed y)
  missed-Compare op x y = ap (misses scope) (by.names-Compare op x y) ∙ misses_both scope (expr_names x) (expr_names y)

  pub missed-All : (xs : List Expr) → missed (e.All xs) ≡ misses scope (flat_map expr_names xs)
  missed-All xs = ap (misses scope) (by.names-All xs) ∙ misses_joined expr_names xs

  pub missed-Any : (xs : List Expr) → missed (e.Any xs) ≡ misses scope (flat_map expr_names xs)
  missed-Any xs = ap (misses scope) (by.names-Any xs) ∙ misses_joined expr_names xs

  pub missed-If : (x y z : Expr) → missed (e.If x y z) ≡ (missed x || missed y || missed z)
  missed-If x y z =
      ap (misses scope) (by.names-If x y z) ∙ misses_both scope (expr_names x ++ expr_names y) (expr_names z)
      ∙ ap (λ b. b || missed z) (misses_both scope (expr_names x) (expr_names y))

pub ruleset names = (missed-Number, missed-True, missed-False, missed-Throw, missed-Name, missed-Call, missed-Element, missed-Convert, missed-Paren, missed-Minus, missed-Not, missed-Chain, missed-Compare, missed-All, missed-Any, missed-If)
