-- The value of an expression, form by form.
use Rattle.std.proofs.Common.{◌≡◌, ℕ, List, [], ◌∷◌, map, refl, ap, ◌∙◌}
use Rattle.pts_types.specs.declared.value.Kind.{Kind}
use Rattle.pts_types.specs.declared.operation.ScalarOp.{ScalarOp}
use Rattle.pts_tree.specs.declared.expr.Expr.{Expr}
use Rattle.pts_tree.specs.declared.expr.Expr.TheOpen.{Expr-F}
use Rattle.pts_tree.specs.declared.expr.Expr.TheVariants as e
use Rattle.pts_tree.specs.declared.expr.Expr.TheFolds.{fold-ChainPart}
use Rattle.pts_tree.specs.declared.expr.ChainPart.{ChainPart}
use Rattle.pts_rules.proofs.ExprFolds.{at-Number, at-True, at-False, at-Name, at-Call, at-Element, at-Convert, at-Throw, at-Paren, at-Minus, at-Not, at-Chain, at-Compare, at-All, at-Any, at-If, at-part}
use Rattle.pts_code.specs.Values.{Environment, Reads, Valuation, Part, valuation, valuation_step}

-- a part of a chain
abbrev pub valued_part : Environment → Reads → ChainPart → Part
valued_part env rs part = (part.op, valuation env rs part.operand)

parts_are : (env : Environment) (rs : Reads) (parts : List ChainPart)
    → map (fold-ChainPart Valuation Part (valuation_step env rs) (λ part. (part.op, part.operand))) parts ≡ map (valued_part env rs) parts
unfolding valuation
parts_are env rs [] = refl
parts_are env rs (x ∷ xs) = λ i. at-part Valuation Part (valuation_step env rs) (λ part. (part.op, part.operand)) x i ∷ parts_are env rs xs i

pub valued-Number : (env : Environment) (rs : Reads) (n : ℕ) → valuation env rs (e.Number n) ≡ valuation_step env rs (Expr-F.Number n)
unfolding valuation
valued-Number env rs n = at-Number Valuation Part (valuation_step env rs) (λ part. (part.op, part.operand)) n

pub valued-True : (env : Environment) (rs : Reads) → valuation env rs e.True ≡ valuation_step env rs Expr-F.True
unfolding valuation
valued-True env rs = at-True Valuation Part (valuation_step env rs) (λ part. (part.op, part.operand))

pub valued-False : (env : Environment) (rs : Reads) → valuation env rs e.False ≡ valuation_step env rs Expr-F.False
unfolding valuation
valued-False env rs = at-False Valuation Part (valuation_step env rs) (λ part. (part.op, part.operand))

pub valued-Name : (env : Environment) (rs : Reads) (name : List ℕ) → valuation env rs (e.Name name) ≡ valuation_step env rs (Expr-F.Name name)
unfolding valuation
valued-Name env rs name = at-Name Valuation Part (valuation_step env rs) (λ part. (part.op, part.operand)) name

pub valued-Call : (env : Environment) (rs : Reads) (name : List ℕ) (xs : List Expr) → valuation env rs (e.Call name xs) ≡ valuation_step env rs (Expr-F.Call name (map (valuation env rs) xs))
unfolding valuation
valued-Call env rs name xs = at-Call Valuation Part (valuation_step env rs) (λ part. (part.op, part.operand)) name xs

pub valued-Element : (env : Environment) (rs : Reads) (name : List ℕ) (x : Expr) → valuation env rs (e.Element name x) ≡ valuation_step env rs (Expr-F.Element name (valuation env rs x))
unfolding valuation
valued-Element env rs name x = at-Element Valuation Part (valuation_step env rs) (λ part. (part.op, part.operand)) name x

pub valued-Convert : (env : Environment) (rs : Reads) (to : Kind) (x : Expr) → valuation env rs (e.Convert to x) ≡ valuation_step env rs (Expr-F.Convert to (valuation env rs x))
unfolding valuation
valued-Convert env rs to x = at-Convert Valuation Part (valuation_step env rs) (λ part. (part.op, part.operand)) to x

pub valued-Throw : (env : Environment) (rs : Reads) (n : ℕ) → valuation env rs (e.Throw n) ≡ valuation_step env rs (Expr-F.Throw n)
unfolding valuation
valued-Throw env rs n = at-Throw Valuation Part (valuation_step env rs) (λ part. (part.op, part.operand)) n

pub valued-Paren : (env : Environment) (rs : Reads) (x : Expr) → valuation env rs (e.Paren x) ≡ valuation_step env rs (Expr-F.Paren (valuation env rs x))
unfolding valuation
valued-Paren env rs x = at-Paren Valuation Part (valuation_step env rs) (λ part. (part.op, part.operand)) x

pub valued-Minus : (env : Environment) (rs : Reads) (x : Expr) → valuation env rs (e.Minus x) ≡ valuation_step env rs (Expr-F.Minus (valuation env rs x))
unfolding valuation
valued-Minus env rs x = at-Minus Valuation Part (valuation_step env rs) (λ part. (part.op, part.operand)) x

pub valued-Not : (env : Environment) (rs : Reads) (x : Expr) → valuation env rs (e.Not x) ≡ valuation_step env rs (Expr-F.Not (valuation env rs x))
unfolding valuation
valued-Not env rs x = at-Not Valuation Part (valuation_step env rs) (λ part. (part.op, part.operand)) x

pub valued-Chain : (env : Environment) (rs : Reads) (x : Expr) (parts : List ChainPart) → valuation env rs (e.Chain x parts) ≡ valuation_step env rs (Expr-F.Chain (valuation env rs x) (map (valued_part env rs) parts))
unfolding valuation
valued-Chain env rs x parts = at-Chain Valuation Part (valuation_step env rs) (λ part. (part.op, part.operand)) x parts
    ∙ ap (λ ys. valuation_step env rs (Expr-F.Chain (valuation env rs x) ys)) (parts_are env rs parts)

pub valued-Compare : (env : Environment) (rs : Reads) (op : ScalarOp) (x : Expr) (y : Expr) → valuation env rs (e.Compare op x y) ≡ valuation_step env rs (Expr-F.Compare op (valuation env rs x) (valuation env rs y))
unfolding valuation
valued-Compare env rs op x y = at-Compare Valuation Part (valuation_step env rs) (λ part. (part.op, part.operand)) op x y

pub valued-All : (env : Environment) (rs : Reads) (xs : List Expr) → valuation env rs (e.All xs) ≡ valuation_step env rs (Expr-F.All (map (valuation env rs) xs))
unfolding valuation
valued-All env rs xs = at-All Valuation Part (valuation_step env rs) (λ part. (part.op, part.operand)) xs

pub valued-Any : (env : Environment) (rs : Reads) (xs : List Expr) → valuation env rs (e.Any xs) ≡ valuation_step env rs (Expr-F.Any (map (valuation env rs) xs))
unfolding valuation
valued-Any env rs xs = at-Any Valuation Part (valuation_step env rs) (λ part. (part.op, part.operand)) xs

pub valued-If : (env : Environment) (rs : Reads) (x : Expr) (y : Expr) (z : Expr) → valuation env rs (e.If x y z) ≡ valuation_step env rs (Expr-F.If (valuation env rs x) (valuation env rs y) (valuation env rs z))
unfolding valuation
valued-If env rs x y z = at-If Valuation Part (valuation_step env rs) (λ part. (part.op, part.operand)) x y z

pub ruleset valued_by_form = (valued-Number, valued-True, valued-False, valued-Name, valued-Call, valued-Element, valued-Convert, valued-Throw, valued-Paren, valued-Minus, valued-Not, valued-Chain, valued-Compare, valued-All, valued-Any, valued-If)
