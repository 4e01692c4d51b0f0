-- How many elements an expression reads, form by form.
use Rattle.std.proofs.Common.{◌≡◌, ℕ, List, map}
use Rattle.pts_types.specs.declared.value.Kind.{Kind}
use Rattle.pts_types.specs.declared.operation.ScalarOp.{ScalarOp}
use Rattle.pts_tree.specs.declared.expr.Expr.{Expr}
use Rattle.pts_tree.specs.declared.expr.Expr.TheOpen.{Expr-F}
use Rattle.pts_tree.specs.declared.expr.Expr.TheVariants as e
use Rattle.pts_tree.specs.declared.expr.ChainPart.{ChainPart}
use Rattle.pts_rules.specs.Counts.{reads, reads_step}
use Rattle.pts_rules.proofs.ExprFolds.{at-Number, at-True, at-False, at-Name, at-Call, at-Element, at-Convert, at-Throw, at-Paren, at-Minus, at-Not, at-chain, at-Compare, at-All, at-Any, at-If}

pub reads-Number : (n : ℕ) → reads (e.Number n) ≡ reads_step (Expr-F.Number n)
unfolding reads
reads-Number n = at-Number ℕ ℕ reads_step (λ part. part.operand) n

pub reads-True : reads e.True ≡ reads_step Expr-F.True
unfolding reads
reads-True = at-True ℕ ℕ reads_step (λ part. part.operand)

pub reads-False : reads e.False ≡ reads_step Expr-F.False
unfolding reads
reads-False = at-False ℕ ℕ reads_step (λ part. part.operand)

pub reads-Name : (name : List ℕ) → reads (e.Name name) ≡ reads_step (Expr-F.Name name)
unfolding reads
reads-Name name = at-Name ℕ ℕ reads_step (λ part. part.operand) name

pub reads-Call : (name : List ℕ) (xs : List Expr) → reads (e.Call name xs) ≡ reads_step (Expr-F.Call name (map reads xs))
unfolding reads
reads-Call name xs = at-Call ℕ ℕ reads_step (λ part. part.operand) name xs

pub reads-Element : (name : List ℕ) (x : Expr) → reads (e.Element name x) ≡ reads_step (Expr-F.Element name (reads x))
unfolding reads
reads-Element name x = at-Element ℕ ℕ reads_step (λ part. part.operand) name x

pub reads-Convert : (to : Kind) (x : Expr) → reads (e.Convert to x) ≡ reads_step (Expr-F.Convert to (reads x))
unfolding reads
reads-Convert to x = at-Convert ℕ ℕ reads_step (λ part. part.operand) to x

pub reads-Throw : (n : ℕ) → reads (e.Throw n) ≡ reads_step (Expr-F.Throw n)
unfolding reads
reads-Throw n = at-Throw ℕ ℕ reads_step (λ part. part.operand) n

pub reads-Paren : (x : Expr) → reads (e.Paren x) ≡ reads_step (Expr-F.Paren (reads x))
unfolding reads
reads-Paren x = at-Paren ℕ ℕ reads_step (λ part. part.operand) x

pub reads-Minus : (x : Expr) → reads (e.Minus x) ≡ reads_step (Expr-F.Minus (reads x))
unfolding reads
reads-Minus x = at-Minus ℕ ℕ reads_step (λ part. part.operand) x

pub reads-Not : (x : Expr) → reads (e.Not x) ≡ reads_step (Expr-F.Not (reads x))
unfolding reads
reads-Not x = at-Not ℕ ℕ reads_step (λ part. part.operand) x

pub reads-Chain : (x : Expr) (parts : List ChainPart) → reads (e.Chain x parts) ≡ reads_step (Expr-F.Chain (reads x) (map (λ y. reads y.operand) parts))
unfolding reads
reads-Chain x parts = at-chain ℕ reads_step x parts

pub reads-Compare : (op : ScalarOp) (x y : Expr) → reads (e.Compare op x y) ≡ reads_step (Expr-F.Compare op (reads x) (reads y))
unfolding reads
reads-Compare op x y = at-Compare ℕ ℕ reads_step (λ part. part.operand) op x y

pub reads-All : (xs : List Expr) → reads (e.All xs) ≡ reads_step (Expr-F.All (map reads xs))
unfolding reads
reads-All xs = at-All ℕ ℕ reads_step (λ part. part.operand) xs

pub reads-Any : (xs : List Expr) → reads (e.Any xs) ≡ reads_step (Expr-F.Any (map reads xs))
unfolding reads
reads-Any xs = at-Any ℕ ℕ reads_step (λ part. part.operand) xs

pub reads-If : (x y z : Expr) → reads (e.If x y z) ≡ reads_step (Expr-F.If (reads x) (reads y) (reads z))
unfolding reads
reads-If x y z = at-If ℕ ℕ reads_step (λ part. part.operand) x y z

pub ruleset reads_by_form = (reads-Number, reads-True, reads-False, reads-Name, reads-Call, reads-Element, reads-Convert, reads-Throw, reads-Paren, reads-Minus, reads-Not, reads-Chain, reads-Compare, reads-All, reads-Any, reads-If)
