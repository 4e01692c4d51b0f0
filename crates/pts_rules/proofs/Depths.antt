-- The depth of the functions that an expression calls, form by form.
use Rattle.std.proofs.Common.{◌≡◌, ℕ, List, map}
use Rattle.pts_types.specs.declared.value.Kind.{Kind}
use Rattle.pts_types.specs.declared.operation.ScalarOp.{ScalarOp}
use Rattle.pts_tree.specs.declared.expr.Expr.{Expr}
use Rattle.pts_tree.specs.declared.expr.Expr.TheOpen.{Expr-F}
use Rattle.pts_tree.specs.declared.expr.Expr.TheVariants as e
use Rattle.pts_tree.specs.declared.expr.ChainPart.{ChainPart}
use Rattle.pts_rules.specs.Known.{Scope}
use Rattle.pts_rules.specs.Counts.{called_depth, calls_step}
use Rattle.pts_rules.proofs.ExprFolds.{at-Number, at-True, at-False, at-Name, at-Call, at-Element, at-Convert, at-Throw, at-Paren, at-Minus, at-Not, at-chain, at-Compare, at-All, at-Any, at-If}

pub depth-Number : (scope : Scope) (n : ℕ) → called_depth scope (e.Number n) ≡ calls_step scope (Expr-F.Number n)
unfolding called_depth
depth-Number scope n = at-Number ℕ ℕ (calls_step scope) (λ part. part.operand) n

pub depth-True : (scope : Scope) → called_depth scope e.True ≡ calls_step scope Expr-F.True
unfolding called_depth
depth-True scope = at-True ℕ ℕ (calls_step scope) (λ part. part.operand)

pub depth-False : (scope : Scope) → called_depth scope e.False ≡ calls_step scope Expr-F.False
unfolding called_depth
depth-False scope = at-False ℕ ℕ (calls_step scope) (λ part. part.operand)

pub depth-Name : (scope : Scope) (name : List ℕ) → called_depth scope (e.Name name) ≡ calls_step scope (Expr-F.Name name)
unfolding called_depth
depth-Name scope name = at-Name ℕ ℕ (calls_step scope) (λ part. part.operand) name

pub depth-Call : (scope : Scope) (name : List ℕ) (xs : List Expr) → called_depth scope (e.Call name xs) ≡ calls_step scope (Expr-F.Call name (map (called_depth scope) xs))
unfolding called_depth
depth-Call scope name xs = at-Call ℕ ℕ (calls_step scope) (λ part. part.operand) name xs

pub depth-Element : (scope : Scope) (name : List ℕ) (x : Expr) → called_depth scope (e.Element name x) ≡ calls_step scope (Expr-F.Element name (called_depth scope x))
unfolding called_depth
depth-Element scope name x = at-Element ℕ ℕ (calls_step scope) (λ part. part.operand) name x

pub depth-Convert : (scope : Scope) (to : Kind) (x : Expr) → called_depth scope (e.Convert to x) ≡ calls_step scope (Expr-F.Convert to (called_depth scope x))
unfolding called_depth
depth-Convert scope to x = at-Convert ℕ ℕ (calls_step scope) (λ part. part.operand) to x

pub depth-Throw : (scope : Scope) (n : ℕ) → called_depth scope (e.Throw n) ≡ calls_step scope (Expr-F.Throw n)
unfolding called_depth
depth-Throw scope n = at-Throw ℕ ℕ (calls_step scope) (λ part. part.operand) n

pub depth-Paren : (scope : Scope) (x : Expr) → called_depth scope (e.Paren x) ≡ calls_step scope (Expr-F.Paren (called_depth scope x))
unfolding called_depth
depth-Paren scope x = at-Paren ℕ ℕ (calls_step scope) (λ part. part.operand) x

pub depth-Minus : (scope : Scope) (x : Expr) → called_depth scope (e.Minus x) ≡ calls_step scope (Expr-F.Minus (called_depth scope x))
unfolding called_depth
depth-Minus scope x = at-Minus ℕ ℕ (calls_step scope) (λ part. part.operand) x

pub depth-Not : (scope : Scope) (x : Expr) → called_depth scope (e.Not x) ≡ calls_step scope (Expr-F.Not (called_depth scope x))
unfolding called_depth
depth-Not scope x = at-Not ℕ ℕ (calls_step scope) (λ part. part.operand) x

pub depth-Chain : (scope : Scope) (x : Expr) (parts : List ChainPart) → called_depth scope (e.Chain x parts) ≡ calls_step scope (Expr-F.Chain (called_depth scope x) (map (λ y. called_depth scope y.operand) parts))
unfolding called_depth
depth-Chain scope x parts = at-chain ℕ (calls_step scope) x parts

pub depth-Compare : (scope : Scope) (op : ScalarOp) (x y : Expr) → called_depth scope (e.Compare op x y) ≡ calls_step scope (Expr-F.Compare op (called_depth scope x) (called_depth scope y))
unfolding called_depth
depth-Compare scope op x y = at-Compare ℕ ℕ (calls_step scope) (λ part. part.operand) op x y

pub depth-All : (scope : Scope) (xs : List Expr) → called_depth scope (e.All xs) ≡ calls_step scope (Expr-F.All (map (called_depth scope) xs))
unfolding called_depth
depth-All scope xs = at-All ℕ ℕ (calls_step scope) (λ part. part.operand) xs

pub depth-Any : (scope : Scope) (xs : List Expr) → called_depth scope (e.Any xs) ≡ calls_step scope (Expr-F.Any (map (called_depth scope) xs))
unfolding called_depth
depth-Any scope xs = at-Any ℕ ℕ (calls_step scope) (λ part. part.operand) xs

pub depth-If : (scope : Scope) (x y z : Expr) → called_depth scope (e.If x y z) ≡ calls_step scope (Expr-F.If (called_depth scope x) (called_depth scope y) (called_depth scope z))
unfolding called_depth
depth-If scope x y z = at-If ℕ ℕ (calls_step scope) (λ part. part.operand) x y z

pub ruleset depth_by_form = (depth-Number, depth-True, depth-False, depth-Name, depth-Call, depth-Element, depth-Convert, depth-Throw, depth-Paren, depth-Minus, depth-Not, depth-Chain, depth-Compare, depth-All, depth-Any, depth-If)
