-- The kinds of an expression, form by form.
use Rattle.std.proofs.Common.{◌≡◌, ℕ, Bool, List, map}
use Rattle.pts_types.specs.declared.value.Kind.{Kind}
use Rattle.pts_types.specs.declared.operation.ScalarOp.{ScalarOp}
use Rattle.pts_tree.specs.declared.expr.Expr.{Expr}
use Rattle.pts_tree.specs.declared.expr.Expr.TheOpen.{Expr-F}
use Rattle.pts_tree.specs.declared.expr.Expr.TheVariants as e
use Rattle.pts_tree.specs.declared.expr.ChainPart.{ChainPart}
use Rattle.pts_rules.specs.Known.{Scope}
use Rattle.pts_rules.specs.Kinds.{Typing, typing, typing_step}
use Rattle.pts_rules.proofs.ExprFolds.{at-Number, at-True, at-False, at-Name, at-Call, at-Element, at-Convert, at-Throw, at-Paren, at-Minus, at-Not, at-chain, at-Compare, at-All, at-Any, at-If}

pub typing-Number : (reads : Bool) (scope : Scope) (n : ℕ) → typing reads scope (e.Number n) ≡ typing_step reads scope (Expr-F.Number n)
unfolding typing
typing-Number reads scope n = at-Number Typing Typing (typing_step reads scope) (λ part. part.operand) n

pub typing-True : (reads : Bool) (scope : Scope) → typing reads scope e.True ≡ typing_step reads scope Expr-F.True
unfolding typing
typing-True reads scope = at-True Typing Typing (typing_step reads scope) (λ part. part.operand)

pub typing-False : (reads : Bool) (scope : Scope) → typing reads scope e.False ≡ typing_step reads scope Expr-F.False
unfolding typing
typing-False reads scope = at-False Typing Typing (typing_step reads scope) (λ part. part.operand)

pub typing-Name : (reads : Bool) (scope : Scope) (name : List ℕ) → typing reads scope (e.Name name) ≡ typing_step reads scope (Expr-F.Name name)
unfolding typing
typing-Name reads scope name = at-Name Typing Typing (typing_step reads scope) (λ part. part.operand) name

pub typing-Call : (reads : Bool) (scope : Scope) (name : List ℕ) (xs : List Expr) → typing reads scope (e.Call name xs) ≡ typing_step reads scope (Expr-F.Call name (map (typing reads scope) xs))
unfolding typing
typing-Call reads scope name xs = at-Call Typing Typing (typing_step reads scope) (λ part. part.operand) name xs

pub typing-Element : (reads : Bool) (scope : Scope) (name : List ℕ) (x : Expr) → typing reads scope (e.Element name x) ≡ typing_step reads scope (Expr-F.Element name (typing reads scope x))
unfolding typing
typing-Element reads scope name x = at-Element Typing Typing (typing_step reads scope) (λ part. part.operand) name x

pub typing-Convert : (reads : Bool) (scope : Scope) (to : Kind) (x : Expr) → typing reads scope (e.Convert to x) ≡ typing_step reads scope (Expr-F.Convert to (typing reads scope x))
unfolding typing
typing-Convert reads scope to x = at-Convert Typing Typing (typing_step reads scope) (λ part. part.operand) to x

pub typing-Throw : (reads : Bool) (scope : Scope) (n : ℕ) → typing reads scope (e.Throw n) ≡ typing_step reads scope (Expr-F.Throw n)
unfolding typing
typing-Throw reads scope n = at-Throw Typing Typing (typing_step reads scope) (λ part. part.operand) n

pub typing-Paren : (reads : Bool) (scope : Scope) (x : Expr) → typing reads scope (e.Paren x) ≡ typing_step reads scope (Expr-F.Paren (typing reads scope x))
unfolding typing
typing-Paren reads scope x = at-Paren Typing Typing (typing_step reads scope) (λ part. part.operand) x

pub typing-Minus : (reads : Bool) (scope : Scope) (x : Expr) → typing reads scope (e.Minus x) ≡ typing_step reads scope (Expr-F.Minus (typing reads scope x))
unfolding typing
typing-Minus reads scope x = at-Minus Typing Typing (typing_step reads scope) (λ part. part.operand) x

pub typing-Not : (reads : Bool) (scope : Scope) (x : Expr) → typing reads scope (e.Not x) ≡ typing_step reads scope (Expr-F.Not (typing reads scope x))
unfolding typing
typing-Not reads scope x = at-Not Typing Typing (typing_step reads scope) (λ part. part.operand) x

pub typing-Chain : (reads : Bool) (scope : Scope) (x : Expr) (parts : List ChainPart) → typing reads scope (e.Chain x parts) ≡ typing_step reads scope (Expr-F.Chain (typing reads scope x) (map (λ y. typing reads scope y.operand) parts))
unfolding typing
typing-Chain reads scope x parts = at-chain Typing (typing_step reads scope) x parts

pub typing-Compare : (reads : Bool) (scope : Scope) (op : ScalarOp) (x y : Expr) → typing reads scope (e.Compare op x y) ≡ typing_step reads scope (Expr-F.Compare op (typing reads scope x) (typing reads scope y))
unfolding typing
typing-Compare reads scope op x y = at-Compare Typing Typing (typing_step reads scope) (λ part. part.operand) op x y

pub typing-All : (reads : Bool) (scope : Scope) (xs : List Expr) → typing reads scope (e.All xs) ≡ typing_step reads scope (Expr-F.All (map (typing reads scope) xs))
unfolding typing
typing-All reads scope xs = at-All Typing Typing (typing_step reads scope) (λ part. part.operand) xs

pub typing-Any : (reads : Bool) (scope : Scope) (xs : List Expr) → typing reads scope (e.Any xs) ≡ typing_step reads scope (Expr-F.Any (map (typing reads scope) xs))
unfolding typing
typing-Any reads scope xs = at-Any Typing Typing (typing_step reads scope) (λ part. part.operand) xs

pub typing-If : (reads : Bool) (scope : Scope) (x y z : Expr) → typing reads scope (e.If x y z) ≡ typing_step reads scope (Expr-F.If (typing reads scope x) (typing reads scope y) (typing reads scope z))
unfolding typing
typing-If reads scope x y z = at-If Typing Typing (typing_step reads scope) (λ part. part.operand) x y z

pub ruleset typing_by_form = (typing-Number, typing-True, typing-False, typing-Name, typing-Call, typing-Element, typing-Convert, typing-Throw, typing-Paren, typing-Minus, typing-Not, typing-Chain, typing-Compare, typing-All, typing-Any, typing-If)
