-- How many numbers the elements of an expression take, form by form.
use Rattle.std.proofs.Common.{◌≡◌, ℕ, Bool, List, map}
use Rattle.pts_types.specs.declared.value.Kind.{Kind}
use Rattle.pts_types.specs.declared.operation.ScalarOp.{ScalarOp}
use Rattle.pts_tree.specs.declared.expr.Expr.{Expr}
use Rattle.pts_tree.specs.declared.expr.Expr.TheOpen.{Expr-F}
use Rattle.pts_tree.specs.declared.expr.Expr.TheVariants as e
use Rattle.pts_tree.specs.declared.expr.ChainPart.{ChainPart}
use Rattle.pts_rules.proofs.ExprFolds.{at-Number, at-True, at-False, at-Name, at-Call, at-Element, at-Convert, at-Throw, at-Paren, at-Minus, at-Not, at-chain, at-Compare, at-All, at-Any, at-If}
use Rattle.pts_code.specs.Values.{numbers, numbers_step}

pub numbers-Number : (indices : Bool) (n : ℕ) → numbers indices (e.Number n) ≡ numbers_step indices (Expr-F.Number n)
unfolding numbers
numbers-Number indices n = at-Number ℕ ℕ (numbers_step indices) (λ part. part.operand) n

pub numbers-True : (indices : Bool) → numbers indices e.True ≡ numbers_step indices Expr-F.True
unfolding numbers
numbers-True indices = at-True ℕ ℕ (numbers_step indices) (λ part. part.operand)

pub numbers-False : (indices : Bool) → numbers indices e.False ≡ numbers_step indices Expr-F.False
unfolding numbers
numbers-False indices = at-False ℕ ℕ (numbers_step indices) (λ part. part.operand)

pub numbers-Name : (indices : Bool) (name : List ℕ) → numbers indices (e.Name name) ≡ numbers_step indices (Expr-F.Name name)
unfolding numbers
numbers-Name indices name = at-Name ℕ ℕ (numbers_step indices) (λ part. part.operand) name

pub numbers-Call : (indices : Bool) (name : List ℕ) (xs : List Expr) → numbers indices (e.Call name xs) ≡ numbers_step indices (Expr-F.Call name (map (numbers indices) xs))
unfolding numbers
numbers-Call indices name xs = at-Call ℕ ℕ (numbers_step indices) (λ part. part.operand) name xs

pub numbers-Element : (indices : Bool) (name : List ℕ) (x : Expr) → numbers indices (e.Element name x) ≡ numbers_step indices (Expr-F.Element name (numbers indices x))
unfolding numbers
numbers-Element indices name x = at-Element ℕ ℕ (numbers_step indices) (λ part. part.operand) name x

pub numbers-Convert : (indices : Bool) (to : Kind) (x : Expr) → numbers indices (e.Convert to x) ≡ numbers_step indices (Expr-F.Convert to (numbers indices x))
unfolding numbers
numbers-Convert indices to x = at-Convert ℕ ℕ (numbers_step indices) (λ part. part.operand) to x

pub numbers-Throw : (indices : Bool) (n : ℕ) → numbers indices (e.Throw n) ≡ numbers_step indices (Expr-F.Throw n)
unfolding numbers
numbers-Throw indices n = at-Throw ℕ ℕ (numbers_step indices) (λ part. part.operand) n

pub numbers-Paren : (indices : Bool) (x : Expr) → numbers indices (e.Paren x) ≡ numbers_step indices (Expr-F.Paren (numbers indices x))
unfolding numbers
numbers-Paren indices x = at-Paren ℕ ℕ (numbers_step indices) (λ part. part.operand) x

pub numbers-Minus : (indices : Bool) (x : Expr) → numbers indices (e.Minus x) ≡ numbers_step indices (Expr-F.Minus (numbers indices x))
unfolding numbers
numbers-Minus indices x = at-Minus ℕ ℕ (numbers_step indices) (λ part. part.operand) x

pub numbers-Not : (indices : Bool) (x : Expr) → numbers indices (e.Not x) ≡ numbers_step indices (Expr-F.Not (numbers indices x))
unfolding numbers
numbers-Not indices x = at-Not ℕ ℕ (numbers_step indices) (λ part. part.operand) x

pub numbers-Chain : (indices : Bool) (x : Expr) (parts : List ChainPart) → numbers indices (e.Chain x parts) ≡ numbers_step indices (Expr-F.Chain (numbers indices x) (map (λ y. numbers indices y.operand) parts))
unfolding numbers
numbers-Chain indices x parts = at-chain ℕ (numbers_step indices) x parts

pub numbers-Compare : (indices : Bool) (op : ScalarOp) (x : Expr) (y : Expr) → numbers indices (e.Compare op x y) ≡ numbers_step indices (Expr-F.Compare op (numbers indices x) (numbers indices y))
unfolding numbers
numbers-Compare indices op x y = at-Compare ℕ ℕ (numbers_step indices) (λ part. part.operand) op x y

pub numbers-All : (indices : Bool) (xs : List Expr) → numbers indices (e.All xs) ≡ numbers_step indices (Expr-F.All (map (numbers indices) xs))
unfolding numbers
numbers-All indices xs = at-All ℕ ℕ (numbers_step indices) (λ part. part.operand) xs

pub numbers-Any : (indices : Bool) (xs : List Expr) → numbers indices (e.Any xs) ≡ numbers_step indices (Expr-F.Any (map (numbers indices) xs))
unfolding numbers
numbers-Any indices xs = at-Any ℕ ℕ (numbers_step indices) (λ part. part.operand) xs

pub numbers-If : (indices : Bool) (x : Expr) (y : Expr) (z : Expr) → numbers indices (e.If x y z) ≡ numbers_step indices (Expr-F.If (numbers indices x) (numbers indices y) (numbers indices z))
unfolding numbers
numbers-If indices x y z = at-If ℕ ℕ (numbers_step indices) (λ part. part.operand) x y z

pub ruleset numbers_by_form = (numbers-Number, numbers-True, numbers-False, numbers-Name, numbers-Call, numbers-Element, numbers-Convert, numbers-Throw, numbers-Paren, numbers-Minus, numbers-Not, numbers-Chain, numbers-Compare, numbers-All, numbers-Any, numbers-If)
