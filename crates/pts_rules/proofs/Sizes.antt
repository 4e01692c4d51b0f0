-- The size of an expression, form by form.
use Rattle.std.proofs.Common.{◌≡◌, ℕ, List, map}
use Rattle.pts_types.specs.declared.value.Kind.{Kind}
use Rattle.pts_types.specs.declared.operation.ScalarOp.{ScalarOp}
use Rattle.pts_tree.specs.declared.expr.Expr.{Expr}
use Rattle.pts_tree.specs.declared.expr.Expr.TheOpen.{Expr-F}
use Rattle.pts_tree.specs.declared.expr.Expr.TheVariants as e
use Rattle.pts_tree.specs.declared.expr.ChainPart.{ChainPart}
use Rattle.pts_rules.specs.Known.{Scope}
use Rattle.pts_rules.specs.Counts.{Size, sizing, size_step}
use Rattle.pts_rules.proofs.ExprFolds.{at-Number, at-True, at-False, at-Name, at-Call, at-Element, at-Convert, at-Throw, at-Paren, at-Minus, at-Not, at-chain, at-Compare, at-All, at-Any, at-If}

pub size-Number : (scope : Scope) (n : ℕ) → sizing scope (e.Number n) ≡ size_step scope (Expr-F.Number n)
unfolding sizing
size-Number scope n = at-Number Size Size (size_step scope) (λ part. part.operand) n

pub size-True : (scope : Scope) → sizing scope e.True ≡ size_step scope Expr-F.True
unfolding sizing
size-True scope = at-True Size Size (size_step scope) (λ part. part.operand)

pub size-False : (scope : Scope) → sizing scope e.False ≡ size_step scope Expr-F.False
unfolding sizing
size-False scope = at-False Size Size (size_step scope) (λ part. part.operand)

pub size-Name : (scope : Scope) (name : List ℕ) → sizing scope (e.Name name) ≡ size_step scope (Expr-F.Name name)
unfolding sizing
size-Name scope name = at-Name Size Size (size_step scope) (λ part. part.operand) name

pub size-Call : (scope : Scope) (name : List ℕ) (xs : List Expr) → sizing scope (e.Call name xs) ≡ size_step scope (Expr-F.Call name (map (sizing scope) xs))
unfolding sizing
size-Call scope name xs = at-Call Size Size (size_step scope) (λ part. part.operand) name xs

pub size-Element : (scope : Scope) (name : List ℕ) (x : Expr) → sizing scope (e.Element name x) ≡ size_step scope (Expr-F.Element name (sizing scope x))
unfolding sizing
size-Element scope name x = at-Element Size Size (size_step scope) (λ part. part.operand) name x

pub size-Convert : (scope : Scope) (to : Kind) (x : Expr) → sizing scope (e.Convert to x) ≡ size_step scope (Expr-F.Convert to (sizing scope x))
unfolding sizing
size-Convert scope to x = at-Convert Size Size (size_step scope) (λ part. part.operand) to x

pub size-Throw : (scope : Scope) (n : ℕ) → sizing scope (e.Throw n) ≡ size_step scope (Expr-F.Throw n)
unfolding sizing
size-Throw scope n = at-Throw Size Size (size_step scope) (λ part. part.operand) n

pub size-Paren : (scope : Scope) (x : Expr) → sizing scope (e.Paren x) ≡ size_step scope (Expr-F.Paren (sizing scope x))
unfolding sizing
size-Paren scope x = at-Paren Size Size (size_step scope) (λ part. part.operand) x

pub size-Minus : (scope : Scope) (x : Expr) → sizing scope (e.Minus x) ≡ size_step scope (Expr-F.Minus (sizing scope x))
unfolding sizing
size-Minus scope x = at-Minus Size Size (size_step scope) (λ part. part.operand) x

pub size-Not : (scope : Scope) (x : Expr) → sizing scope (e.Not x) ≡ size_step scope (Expr-F.Not (sizing scope x))
unfolding sizing
size-Not scope x = at-Not Size Size (size_step scope) (λ part. part.operand) x

pub size-Chain : (scope : Scope) (x : Expr) (parts : List ChainPart) → sizing scope (e.Chain x parts) ≡ size_step scope (Expr-F.Chain (sizing scope x) (map (λ y. sizing scope y.operand) parts))
unfolding sizing
size-Chain scope x parts = at-chain Size (size_step scope) x parts

pub size-Compare : (scope : Scope) (op : ScalarOp) (x y : Expr) → sizing scope (e.Compare op x y) ≡ size_step scope (Expr-F.Compare op (sizing scope x) (sizing scope y))
unfolding sizing
size-Compare scope op x y = at-Compare Size Size (size_step scope) (λ part. part.operand) op x y

pub size-All : (scope : Scope) (xs : List Expr) → sizing scope (e.All xs) ≡ size_step scope (Expr-F.All (map (sizing scope) xs))
unfolding sizing
size-All scope xs = at-All Size Size (size_step scope) (λ part. part.operand) xs

pub size-Any : (scope : Scope) (xs : List Expr) → sizing scope (e.Any xs) ≡ size_step scope (Expr-F.Any (map (sizing scope) xs))
unfolding sizing
size-Any scope xs = at-Any Size Size (size_step scope) (λ part. part.operand) xs

pub size-If : (scope : Scope) (x y z : Expr) → sizing scope (e.If x y z) ≡ size_step scope (Expr-F.If (sizing scope x) (sizing scope y) (sizing scope z))
unfolding sizing
size-If scope x y z = at-If Size Size (size_step scope) (λ part. part.operand) x y z

pub ruleset size_by_form = (size-Number, size-True, size-False, size-Name, size-Call, size-Element, size-Convert, size-Throw, size-Paren, size-Minus, size-Not, size-Chain, size-Compare, size-All, size-Any, size-If)
