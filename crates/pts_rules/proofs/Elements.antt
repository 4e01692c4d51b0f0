-- Which elements an expression reads, form by form.
use Rattle.std.proofs.Common.{◌≡◌, ℕ, List, [], ◌∷◌, ◌++◌, map, refl, sym, ap, ◌∙◌}
use Rattle.std.specs.Prelude.{flat_map}
use Rattle.pts_types.specs.declared.value.Kind.{Kind}
use Rattle.pts_types.specs.declared.operation.ScalarOp.{ScalarOp}
use Rattle.pts_tree.specs.declared.expr.Expr.{Expr}
use Rattle.pts_tree.specs.declared.expr.Expr.TheOpen.{Expr-F}
use Rattle.pts_tree.specs.declared.expr.Expr.TheVariants as e
use Rattle.pts_tree.specs.declared.expr.Expr.TheViews.{out-ChainPart, roll-out-ChainPart}
use Rattle.pts_tree.specs.declared.expr.Expr.TheFolds.{para-ChainPart, para-roll-Expr, para-roll-ChainPart}
use Rattle.pts_tree.specs.declared.expr.ChainPart.{ChainPart}
use Rattle.pts_tree.specs.declared.expr.Place.{Place}
use Rattle.pts_rules.specs.Indices.{elements, elements_step}

-- the elements that the operand of a part reads
abbrev part_elements : ChainPart → List Place
part_elements = para-ChainPart (List Place) (List Place) elements_step (λ part. part.operand.1)

-- a list of expressions beside what each reads, and then what they read
joined : (xs : List Expr) → flat_map {X = Expr × List Place} (λ y. y.1) (map (λ y. (y, elements y)) xs) ≡ flat_map elements xs
joined [] = refl
joined (x ∷ xs) = ap (λ ys. elements x ++ ys) (joined xs)

pub elements-part : (x : ChainPart) → part_elements x ≡ elements x.operand
unfolding elements
elements-part x = ap part_elements (sym (roll-out-ChainPart x)) ∙ para-roll-ChainPart (List Place) (List Place) elements_step (λ part. part.operand.1) (out-ChainPart x)

-- the same of the parts of a chain
joined_parts : (xs : List ChainPart) → flat_map {X = ChainPart × List Place} (λ y. y.1) (map (λ y. (y, part_elements y)) xs) ≡ flat_map (λ y. elements y.operand) xs
joined_parts [] = refl
joined_parts (x ∷ xs) = (λ i. elements-part x i ++ joined_parts xs i)

pub elements-Number : (n : ℕ) → elements (e.Number n) ≡ []
unfolding elements
elements-Number n = ap elements (sym (e.rolls-Number n)) ∙ para-roll-Expr (List Place) (List Place) elements_step (λ part. part.operand.1) (Expr-F.Number n)

pub elements-True : elements e.True ≡ []
unfolding elements
elements-True = ap elements (sym e.rolls-True) ∙ para-roll-Expr (List Place) (List Place) elements_step (λ part. part.operand.1) Expr-F.True

pub elements-False : elements e.False ≡ []
unfolding elements
elements-False = ap elements (sym e.rolls-False) ∙ para-roll-Expr (List Place) (List Place) elements_step (λ part. part.operand.1) Expr-F.False

pub elements-Name : (name : List ℕ) → elements (e.Name name) ≡ []
unfolding elements
elements-Name name = ap elements (sym (e.rolls-Name name)) ∙ para-roll-Expr (List Place) (List Place) elements_step (λ part. part.operand.1) (Expr-F.Name name)

pub elements-Call : (name : List ℕ) (xs : List Expr) → elements (e.Call name xs) ≡ flat_map elements xs
unfolding elements
elements-Call name xs = ap elements (sym (e.rolls-Call name xs)) ∙ para-roll-Expr (List Place) (List Place) elements_step (λ part. part.operand.1) (Expr-F.Call name xs) ∙ joined xs

pub elements-Element : (name : List ℕ) (x : Expr) → elements (e.Element name x) ≡ record { array = name; index = x } ∷ elements x
unfolding elements
elements-Element name x = ap elements (sym (e.rolls-Element name x)) ∙ para-roll-Expr (List Place) (List Place) elements_step (λ part. part.operand.1) (Expr-F.Element name x)

pub elements-Convert : (to : Kind) (x : Expr) → elements (e.Convert to x) ≡ elements x
unfolding elements
elements-Convert to x = ap elements (sym (e.rolls-Convert to x)) ∙ para-roll-Expr (List Place) (List Place) elements_step (λ part. part.operand.1) (Expr-F.Convert to x)

pub elements-Throw : (n : ℕ) → elements (e.Throw n) ≡ []
unfolding elements
elements-Throw n = ap elements (sym (e.rolls-Throw n)) ∙ para-roll-Expr (List Place) (List Place) elements_step (λ part. part.operand.1) (Expr-F.Throw n)

pub elements-Paren : (x : Expr) → elements (e.Paren x) ≡ elements x
unfolding elements
elements-Paren x = ap elements (sym (e.rolls-Paren x)) ∙ para-roll-Expr (List Place) (List Place) elements_step (λ part. part.operand.1) (Expr-F.Paren x)

pub elements-Minus : (x : Expr) → elements (e.Minus x) ≡ elements x
unfolding elements
elements-Minus x = ap elements (sym (e.rolls-Minus x)) ∙ para-roll-Expr (List Place) (List Place) elements_step (λ part. part.operand.1) (Expr-F.Minus x)

pub elements-Not : (x : Expr) → elements (e.Not x) ≡ elements x
unfolding elements
elements-Not x = ap elements (sym (e.rolls-Not x)) ∙ para-roll-Expr (List Place) (List Place) elements_step (λ part. part.operand.1) (Expr-F.Not x)

pub elements-Chain : (x : Expr) (parts : List ChainPart) → elements (e.Chain x parts) ≡ elements x ++ flat_map (λ y. elements y.operand) parts
unfolding elements
elements-Chain x parts = ap elements (sym (e.rolls-Chain x parts)) ∙ para-roll-Expr (List Place) (List Place) elements_step (λ part. part.operand.1) (Expr-F.Chain x parts) ∙ ap (λ ys. elements x ++ ys) (joined_parts parts)

pub elements-Compare : (op : ScalarOp) (x y : Expr) → elements (e.Compare op x y) ≡ elements x ++ elements y
unfolding elements
elements-Compare op x y = ap elements (sym (e.rolls-Compare op x y)) ∙ para-roll-Expr (List Place) (List Place) elements_step (λ part. part.operand.1) (Expr-F.Compare op x y)

pub elements-All : (xs : List Expr) → elements (e.All xs) ≡ flat_map elements xs
unfolding elements
elements-All xs = ap elements (sym (e.rolls-All xs)) ∙ para-roll-Expr (List Place) (List Place) elements_step (λ part. part.operand.1) (Expr-F.All xs) ∙ joined xs

pub elements-Any : (xs : List Expr) → elements (e.Any xs) ≡ flat_map elements xs
unfolding elements
elements-Any xs = ap elements (sym (e.rolls-Any xs)) ∙ para-roll-Expr (List Place) (List Place) elements_step (λ part. part.operand.1) (Expr-F.Any xs) ∙ joined xs

pub elements-If : (x y z : Expr) → elements (e.If x y z) ≡ elements x ++ elements y ++ elements z
unfolding elements
elements-If x y z = ap elements (sym (e.rolls-If x y z)) ∙ para-roll-Expr (List Place) (List Place) elements_step (λ part. part.operand.1) (Expr-F.If x y z)
