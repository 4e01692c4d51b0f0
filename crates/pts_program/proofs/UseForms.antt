-- What an expression uses, form by form.
use Rattle.std.proofs.Common.{◌≡◌, ℕ, Bool, List, map}
use Rattle.pts_types.specs.declared.value.Kind.{Kind}
use Rattle.pts_types.specs.declared.operation.ScalarOp.{ScalarOp}
use Rattle.pts_tree.specs.declared.expr.Expr.{Expr}
use Rattle.pts_tree.specs.declared.expr.Expr.TheOpen.{Expr-F}
use Rattle.pts_tree.specs.declared.expr.Expr.TheVariants as e
use Rattle.pts_tree.specs.declared.expr.ChainPart.{ChainPart}
use Rattle.pts_rules.specs.Parts.{Name}
use Rattle.pts_rules.proofs.ExprFolds.{at-Number, at-True, at-False, at-Name, at-Call, at-Element, at-Convert, at-Throw, at-Paren, at-Minus, at-Not, at-chain, at-Compare, at-All, at-Any, at-If}
use Rattle.pts_program.specs.Callings.{use_step, uses_only}

module _ (values functions : List Name) where
  pub using-Number : (n : ℕ) → uses_only values functions (e.Number n) ≡ use_step values functions (Expr-F.Number n)
  unfolding uses_only
  using-Number n = at-Number Bool Bool (use_step values functions) (λ part. part.operand) n

  pub using-True : uses_only values functions e.True ≡ use_step values functions (Expr-F.True)
  unfolding uses_only
  using-True = at-True Bool Bool (use_step values functions) (λ part. part.operand)

  pub using-False : uses_only values functions e.False ≡ use_step values functions (Expr-F.False)
  unfolding uses_only
  using-False = at-False Bool Bool (use_step values functions) (λ part. part.operand)

  pub using-Name : (name : Name) → uses_only values functions (e.Name name) ≡ use_step values functions (Expr-F.Name name)
  unfolding uses_only
  using-Name name = at-Name Bool Bool (use_step values functions) (λ part. part.operand) name

  pub using-Call : (name : Name) (xs : List Expr) → uses_only values functions (e.Call name xs) ≡ use_step values functions (Expr-F.Call name (map (uses_only values functions) xs))
  unfolding uses_only
  using-Call name xs = at-Call Bool Bool (use_step values functions) (λ part. part.operand) name xs

  pub using-Element : (name : Name) (x : Expr) → uses_only values functions (e.Element name x) ≡ use_step values functions (Expr-F.Element name (uses_only values functions x))
  unfolding uses_only
  using-Element name x = at-Element Bool Bool (use_step values functions) (λ part. part.operand) name x

  pub using-Convert : (to : Kind) (x : Expr) → uses_only values functions (e.Convert to x) ≡ use_step values functions (Expr-F.Convert to (uses_only values functions x))
  unfolding uses_only
  using-Convert to x = at-Convert Bool Bool (use_step values functions) (λ part. part.operand) to x

  pub using-Throw : (n : ℕ) → uses_only values functions (e.Throw n) ≡ use_step values functions (Expr-F.Throw n)
  unfolding uses_only
  using-Throw n = at-Throw Bool Bool (use_step values functions) (λ part. part.operand) n

  pub using-Paren : (x : Expr) → uses_only values functions (e.Paren x) ≡ use_step values functions (Expr-F.Paren (uses_only values functions x))
  unfolding uses_only
  using-Paren x = at-Paren Bool Bool (use_step values functions) (λ part. part.operand) x

  pub using-Minus : (x : Expr) → uses_only values functions (e.Minus x) ≡ use_step values functions (Expr-F.Minus (uses_only values functions x))
  unfolding uses_only
  using-Minus x = at-Minus Bool Bool (use_step values functions) (λ part. part.operand) x

  pub using-Not : (x : Expr) → uses_only values functions (e.Not x) ≡ use_step values functions (Expr-F.Not (uses_only values functions x))
  unfolding uses_only
  using-Not x = at-Not Bool Bool (use_step values functions) (λ part. part.operand) x

  pub using-Chain : (x : Expr) (parts : List ChainPart) → uses_only values functions (e.Chain x parts) ≡ use_step values functions (Expr-F.Chain (uses_only values functions x) (map (λ y. uses_only values functions y.operand) parts))
  unfolding uses_only
  using-Chain x parts = at-chain Bool (use_step values functions) x parts

  pub using-Compare : (op : ScalarOp) (x y : Expr) → uses_only values functions (e.Compare op x y) ≡ use_step values functions (Expr-F.Compare op (uses_only values functions x) (uses_only values functions y))
  unfolding uses_only
  using-Compare op x y = at-Compare Bool Bool (use_step values functions) (λ part. part.operand) op x y

  pub using-All : (xs : List Expr) → uses_only values functions (e.All xs) ≡ use_step values functions (Expr-F.All (map (uses_only values functions) xs))
  unfolding uses_only
  using-All xs = at-All Bool Bool (use_step values functions) (λ part. part.operand) xs

  pub using-Any : (xs : List Expr) → uses_only values functions (e.Any xs) ≡ use_step values functions (Expr-F.Any (map (uses_only values functions) xs))
  unfolding uses_only
  using-Any xs = at-Any Bool Bool (use_step values functions) (λ part. part.operand) xs

  pub using-If : (x y z : Expr) → uses_only values functions (e.If x y z) ≡ use_step values functions (Expr-F.If (uses_only values functions x) (uses_only values functions y) (uses_only values functions z))
  unfolding uses_only
  using-If x y z = at-If Bool Bool (use_step values functions) (λ part. part.operand) x y z
