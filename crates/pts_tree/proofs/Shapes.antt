-- How each variant of an expression is spelled, by what spells its parts.
use Rattle.std.proofs.Common.{◌≡◌, ℕ, List, [], ◌∷◌, map, refl, sym, ap, ◌∙◌}
use Rattle.pts_types.specs.declared.value.Kind.{Kind}
use Rattle.pts_types.specs.declared.operation.ScalarOp.{ScalarOp}
use Rattle.pts_tree.specs.declared.mark.Mark.TheVariants as m
use Rattle.pts_tree.specs.declared.expr.Expr.{Expr}
use Rattle.pts_tree.specs.declared.expr.Expr.TheOpen.{Expr-F}
use Rattle.pts_tree.specs.declared.expr.Expr.TheVariants as e
use Rattle.pts_tree.specs.declared.expr.Expr.TheFolds.{fold-roll-Expr, fold_out-ChainPart}
use Rattle.pts_tree.specs.declared.expr.ChainPart.{ChainPart}
use Rattle.pts_tree.specs.Signs.{Sign, Mark, Name}
use Rattle.pts_tree.specs.Spelling.{Text, each, separated, word, name, number}
use Rattle.pts_tree.specs.Expressions.{Shape, Link, shape_step, link_step, shape, link, shape_text, link_text, expr, chain_part, enclosed, next_expr, throw, function_call, element, convert, chain, compare, if_else}
use Rattle.pts_tree.proofs.Lists.{separated_map}

-- ---- shapes

pub shape-Number : (n : ℕ) → shape (e.Number n) ≡ shape_step (Expr-F.Number n)
unfolding shape link
shape-Number n = ap shape (sym (e.rolls-Number n)) ∙ fold-roll-Expr Shape Link shape_step link_step (Expr-F.Number n)

pub shape-True : shape e.True ≡ shape_step Expr-F.True
unfolding shape link
shape-True = ap shape (sym e.rolls-True) ∙ fold-roll-Expr Shape Link shape_step link_step Expr-F.True

pub shape-False : shape e.False ≡ shape_step Expr-F.False
unfolding shape link
shape-False = ap shape (sym e.rolls-False) ∙ fold-roll-Expr Shape Link shape_step link_step Expr-F.False

pub shape-Name : (text : List ℕ) → shape (e.Name text) ≡ shape_step (Expr-F.Name text)
unfolding shape link
shape-Name text = ap shape (sym (e.rolls-Name text)) ∙ fold-roll-Expr Shape Link shape_step link_step (Expr-F.Name text)

pub shape-Call : (text : List ℕ) (xs : List Expr) → shape (e.Call text xs) ≡ shape_step (Expr-F.Call text (map shape xs))
unfolding shape link
shape-Call text xs = ap shape (sym (e.rolls-Call text xs)) ∙ fold-roll-Expr Shape Link shape_step link_step (Expr-F.Call text xs)

pub shape-Element : (text : List ℕ) (x : Expr) → shape (e.Element text x) ≡ shape_step (Expr-F.Element text (shape x))
unfolding shape link
shape-Element text x = ap shape (sym (e.rolls-Element text x)) ∙ fold-roll-Expr Shape Link shape_step link_step (Expr-F.Element text x)

pub shape-Convert : (to : Kind) (x : Expr) → shape (e.Convert to x) ≡ shape_step (Expr-F.Convert to (shape x))
unfolding shape link
shape-Convert to x = ap shape (sym (e.rolls-Convert to x)) ∙ fold-roll-Expr Shape Link shape_step link_step (Expr-F.Convert to x)

pub shape-Throw : (n : ℕ) → shape (e.Throw n) ≡ shape_step (Expr-F.Throw n)
unfolding shape link
shape-Throw n = ap shape (sym (e.rolls-Throw n)) ∙ fold-roll-Expr Shape Link shape_step link_step (Expr-F.Throw n)

pub shape-Paren : (x : Expr) → shape (e.Paren x) ≡ shape_step (Expr-F.Paren (shape x))
unfolding shape link
shape-Paren x = ap shape (sym (e.rolls-Paren x)) ∙ fold-roll-Expr Shape Link shape_step link_step (Expr-F.Paren x)

pub shape-Minus : (x : Expr) → shape (e.Minus x) ≡ shape_step (Expr-F.Minus (shape x))
unfolding shape link
shape-Minus x = ap shape (sym (e.rolls-Minus x)) ∙ fold-roll-Expr Shape Link shape_step link_step (Expr-F.Minus x)

pub shape-Not : (x : Expr) → shape (e.Not x) ≡ shape_step (Expr-F.Not (shape x))
unfolding shape link
shape-Not x = ap shape (sym (e.rolls-Not x)) ∙ fold-roll-Expr Shape Link shape_step link_step (Expr-F.Not x)

pub shape-Chain : (x : Expr) (parts : List ChainPart) → shape (e.Chain x parts) ≡ shape_step (Expr-F.Chain (shape x) (map link parts))
unfolding shape link
shape-Chain x parts = ap shape (sym (e.rolls-Chain x parts)) ∙ fold-roll-Expr Shape Link shape_step link_step (Expr-F.Chain x parts)

pub shape-Compare : (op : ScalarOp) (x y : Expr) → shape (e.Compare op x y) ≡ shape_step (Expr-F.Compare op (shape x) (shape y))
unfolding shape link
shape-Compare op x y = ap shape (sym (e.rolls-Compare op x y)) ∙ fold-roll-Expr Shape Link shape_step link_step (Expr-F.Compare op x y)

pub shape-All : (xs : List Expr) → shape (e.All xs) ≡ shape_step (Expr-F.All (map shape xs))
unfolding shape link
shape-All xs = ap shape (sym (e.rolls-All xs)) ∙ fold-roll-Expr Shape Link shape_step link_step (Expr-F.All xs)

pub shape-Any : (xs : List Expr) → shape (e.Any xs) ≡ shape_step (Expr-F.Any (map shape xs))
unfolding shape link
shape-Any xs = ap shape (sym (e.rolls-Any xs)) ∙ fold-roll-Expr Shape Link shape_step link_step (Expr-F.Any xs)

pub shape-If : (x y z : Expr) → shape (e.If x y z) ≡ shape_step (Expr-F.If (shape x) (shape y) (shape z))
unfolding shape link
shape-If x y z = ap shape (sym (e.rolls-If x y z)) ∙ fold-roll-Expr Shape Link shape_step link_step (Expr-F.If x y z)

pub link-is : (x : ChainPart) → link x ≡ record { op = x.op; operand = shape x.operand }
unfolding shape link
link-is x = fold_out-ChainPart Shape Link shape_step link_step x

-- ---- texts

-- the links of a chain, spelled from its parts
links_text : (parts : List ChainPart) (tail : List Sign) → each link_text (map link parts) tail ≡ each chain_part parts tail
links_text [] tail = refl
links_text (x ∷ xs) tail = ap (λ y. link_text y (each link_text (map link xs) tail)) (link-is x) ∙ ap (chain_part x) (links_text xs tail)

pub text-Number : (n : ℕ) → ◌≡◌ {A = Text} (expr (e.Number n)) (number n)
text-Number n = ap shape_text (shape-Number n)

pub text-True : ◌≡◌ {A = Text} (expr e.True) (word m.True)
text-True = ap shape_text shape-True

pub text-False : ◌≡◌ {A = Text} (expr e.False) (word m.False)
text-False = ap shape_text shape-False

pub text-Name : (text : List ℕ) → ◌≡◌ {A = Text} (expr (e.Name text)) (name text)
text-Name text = ap shape_text (shape-Name text)

pub text-Call : (text : List ℕ) (xs : List Expr) → ◌≡◌ {A = Text} (expr (e.Call text xs)) (function_call text xs)
text-Call text xs = ap shape_text (shape-Call text xs) ∙ (λ i tail. Name text ∷ Mark m.OpenParen ∷ separated_map m.Comma shape_text shape xs (Mark m.CloseParen ∷ tail) i)

pub text-Element : (text : List ℕ) (x : Expr) → ◌≡◌ {A = Text} (expr (e.Element text x)) (element text x)
text-Element text x = ap shape_text (shape-Element text x)

pub text-Convert : (to : Kind) (x : Expr) → ◌≡◌ {A = Text} (expr (e.Convert to x)) (convert to x)
text-Convert to x = ap shape_text (shape-Convert to x)

pub text-Throw : (n : ℕ) → ◌≡◌ {A = Text} (expr (e.Throw n)) (throw n)
text-Throw n = ap shape_text (shape-Throw n)

pub text-Paren : (x : Expr) → ◌≡◌ {A = Text} (expr (e.Paren x)) (enclosed m.OpenParen (expr x) m.CloseParen)
text-Paren x = ap shape_text (shape-Paren x)

pub text-Minus : (x : Expr) → ◌≡◌ {A = Text} (expr (e.Minus x)) (next_expr m.MinusSign x)
text-Minus x = ap shape_text (shape-Minus x)

pub text-Not : (x : Expr) → ◌≡◌ {A = Text} (expr (e.Not x)) (next_expr m.Exclamation x)
text-Not x = ap shape_text (shape-Not x)

pub text-Chain : (x : Expr) (parts : List ChainPart) → ◌≡◌ {A = Text} (expr (e.Chain x parts)) (chain x parts)
text-Chain x parts = ap shape_text (shape-Chain x parts) ∙ (λ i tail. expr x (links_text parts tail i))

pub text-Compare : (op : ScalarOp) (x y : Expr) → ◌≡◌ {A = Text} (expr (e.Compare op x y)) (compare op x y)
text-Compare op x y = ap shape_text (shape-Compare op x y)

pub text-All : (xs : List Expr) → ◌≡◌ {A = Text} (expr (e.All xs)) (separated m.AmpersandAmpersand expr xs)
text-All xs = ap shape_text (shape-All xs) ∙ (λ i tail. separated_map m.AmpersandAmpersand shape_text shape xs tail i)

pub text-Any : (xs : List Expr) → ◌≡◌ {A = Text} (expr (e.Any xs)) (separated m.BarBar expr xs)
text-Any xs = ap shape_text (shape-Any xs) ∙ (λ i tail. separated_map m.BarBar shape_text shape xs tail i)

pub text-If : (x y z : Expr) → ◌≡◌ {A = Text} (expr (e.If x y z)) (if_else x y z)
text-If x y z = ap shape_text (shape-If x y z)

pub ruleset texts = (text-Number, text-True, text-False, text-Name, text-Call, text-Element, text-Convert, text-Throw, text-Paren, text-Minus, text-Not, text-Chain, text-Compare, text-All, text-Any, text-If)
