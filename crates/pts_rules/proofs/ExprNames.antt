-- The names of an expression, form by form.
use Rattle.std.proofs.Common.{◌≡◌, ℕ, List, map}
use Rattle.pts_types.specs.declared.value.Kind.{Kind}
use Rattle.pts_types.specs.declared.operation.ScalarOp.{ScalarOp}
use Rattle.pts_tree.specs.declared.expr.Expr.{Expr}
use Rattle.pts_tree.specs.declared.expr.Expr.TheOpen.{Expr-F}
use Rattle.pts_tree.specs.declared.expr.Expr.TheVariants as e
use Rattle.pts_tree.specs.declared.expr.ChainPart.{ChainPart}
use Rattle.pts_rules.specs.Parts.{Name, expr_names, expr_names_step}
use Rattle.pts_rules.proofs.ExprFolds.{at-Number, at-True, at-False, at-Name, at-Call, at-Element, at-Convert, at-Throw, at-Paren, at-Minus, at-Not, at-chain, at-Compare, at-All, at-Any, at-If}

pub names-Number : (n : ℕ) → expr_names (e.Number n) ≡ expr_names_step (Expr-F.Number n)
unfolding expr_names
names-Number n = at-Number (List Name) (List Name) expr_names_step (λ part. part.operand) n

pub names-True : expr_names e.True ≡ expr_names_step Expr-F.True
unfolding expr_names
names-True = at-True (List Name) (List Name) expr_names_step (λ part. part.operand)

pub names-False : expr_names e.False ≡ expr_names_step Expr-F.False
unfolding expr_names
names-False = at-False (List Name) (List Name) expr_names_step (λ part. part.operand)

pub names-Name : (name : List ℕ) → expr_names (e.Name name) ≡ expr_names_step (Expr-F.Name name)
unfolding expr_names
names-Name name = at-Name (List Name) (List Name) expr_names_step (λ part. part.operand) name

pub names-Call : (name : List ℕ) (xs : List Expr) → expr_names (e.Call name xs) ≡ expr_names_step (Expr-F.Call name (map expr_names xs))
unfolding expr_names
names-Call name xs = at-Call (List Name) (List Name) expr_names_step (λ part. part.operand) name xs

pub names-Element : (name : List ℕ) (x : Expr) → expr_names (e.Element name x) ≡ expr_names_step (Expr-F.Element name (expr_names x))
unfolding expr_names
names-Element name x = at-Element (List Name) (List Name) expr_names_step (λ part. part.operand) name x

pub names-Convert : (to : Kind) (x : Expr) → expr_names (e.Convert to x) ≡ expr_names_step (Expr-F.Convert to (expr_names x))
unfolding expr_names
names-Convert to x = at-Convert (List Name) (List Name) expr_names_step (λ part. part.operand) to x

pub names-Throw : (n : ℕ) → expr_names (e.Throw n) ≡ expr_names_step (Expr-F.Throw n)
unfolding expr_names
names-Throw n = at-Throw (List Name) (List Name) expr_names_step (λ part. part.operand) n

pub names-Paren : (x : Expr) → expr_names (e.Paren x) ≡ expr_names_step (Expr-F.Paren (expr_names x))
unfolding expr_names
names-Paren x = at-Paren (List Name) (List Name) expr_names_step (λ part. part.operand) x

pub names-Minus : (x : Expr) → expr_names (e.Minus x) ≡ expr_names_step (Expr-F.Minus (expr_names x))
unfolding expr_names
names-Minus x = at-Minus (List Name) (List Name) expr_names_step (λ part. part.operand) x

pub names-Not : (x : Expr) → expr_names (e.Not x) ≡ expr_names_step (Expr-F.Not (expr_names x))
unfolding expr_names
names-Not x = at-Not (List Name) (List Name) expr_names_step (λ part. part.operand) x

pub names-Chain : (x : Expr) (parts : List ChainPart) → expr_names (e.Chain x parts) ≡ expr_names_step (Expr-F.Chain (expr_names x) (map (λ y. expr_names y.operand) parts))
unfolding expr_names
names-Chain x parts = at-chain (List Name) expr_names_step x parts

pub names-Compare : (op : ScalarOp) (x y : Expr) → expr_names (e.Compare op x y) ≡ expr_names_step (Expr-F.Compare op (expr_names x) (expr_names y))
unfolding expr_names
names-Compare op x y = at-Compare (List Name) (List Name) expr_names_step (λ part. part.operand) op x y

pub names-All : (xs : List Expr) → expr_names (e.All xs) ≡ expr_names_step (Expr-F.All (map expr_names xs))
unfolding expr_names
names-All xs = at-All (List Name) (List Name) expr_names_step (λ part. part.operand) xs

pub names-Any : (xs : List Expr) → expr_names (e.Any xs) ≡ expr_names_step (Expr-F.Any (map expr_names xs))
unfolding expr_names
names-Any xs = at-Any (List Name) (List Name) expr_names_step (λ part. part.operand) xs

pub names-If : (x y z : Expr) → expr_names (e.If x y z) ≡ expr_names_step (Expr-F.If (expr_names x) (expr_names y) (expr_names z))
unfolding expr_names
names-If x y z = at-If (List Name) (List Name) expr_names_step (λ part. part.operand) x y z

pub ruleset names_by_form = (names-Number, names-True, names-False, names-Name, names-Call, names-Element, names-Convert, names-Throw, names-Paren, names-Minus, names-Not, names-Chain, names-Compare, names-All, names-Any, names-If)
