-- A test of the elements that an expression, or a statement of a body, reads and writes.
use Rattle.std.proofs.Common.{◌≡◌, ℕ, Bool, true, false, Option, Some, None, List, [], ◌∷◌, ◌++◌, map, refl, sym, ap, ◌∙◌}
use Rattle.std.specs.Prelude.{◌||◌, flat_map, option_map}
use Rattle.std.specs.List.{list_any}
use Rattle.std.proofs.lemmas.List.Folds.{list_any-append}
use Rattle.pts_types.specs.declared.value.Kind.{Kind}
use Rattle.pts_types.specs.declared.operation.ScalarOp.{ScalarOp}
use Rattle.pts_tree.specs.declared.expr.Expr.{Expr}
use Rattle.pts_tree.specs.declared.expr.Expr.TheVariants as e
use Rattle.pts_tree.specs.declared.expr.ChainPart.{ChainPart}
use Rattle.pts_tree.specs.declared.expr.Place.{Place}
use Rattle.pts_tree.specs.declared.loops.BodyStmt.{BodyStmt}
use Rattle.pts_tree.specs.declared.loops.BodyStmt.TheVariants as b
use Rattle.pts_rules.specs.Indices.{elements, places, else_places}
use Rattle.pts_rules.proofs.Elements.{elements-Number, elements-True, elements-False, elements-Name, elements-Call, elements-Element, elements-Convert, elements-Throw, elements-Paren, elements-Minus, elements-Not, elements-Chain, elements-Compare, elements-All, elements-Any, elements-If}
use Rattle.pts_rules.proofs.Bodies.{places-Assign, places-Let, places-Combine, places-If, places-VecOff, places-Ordered}
use Rattle.pts_bounds.specs.Walks.{any_of_write}
use Rattle.pts_limits.proofs.Walks.{any_of_each}

pub some-Number : (p : Place → Bool) (n : ℕ) → list_any p (elements (e.Number n)) ≡ false
some-Number p n = ap (list_any p) (elements-Number n)

pub some-True : (p : Place → Bool) → list_any p (elements e.True) ≡ false
some-True p = ap (list_any p) elements-True

pub some-False : (p : Place → Bool) → list_any p (elements e.False) ≡ false
some-False p = ap (list_any p) elements-False

pub some-Name : (p : Place → Bool) (name : List ℕ) → list_any p (elements (e.Name name)) ≡ false
some-Name p name = ap (list_any p) (elements-Name name)

pub some-Call : (p : Place → Bool) (name : List ℕ) (xs : List Expr) → list_any p (elements (e.Call name xs)) ≡ list_any (λ y. list_any p (elements y)) xs
some-Call p name xs = ap (list_any p) (elements-Call name xs) ∙ any_of_each p elements xs

pub some-Element : (p : Place → Bool) (name : List ℕ) (x : Expr) → list_any p (elements (e.Element name x)) ≡ (p (record { array = name; index = x }) || list_any p (elements x))
some-Element p name x = ap (list_any p) (elements-Element name x)

pub some-Convert : (p : Place → Bool) (to : Kind) (x : Expr) → list_any p (elements (e.Convert to x)) ≡ list_any p (elements x)
some-Convert p to x = ap (list_any p) (elements-Convert to x)

pub some-Throw : (p : Place → Bool) (n : ℕ) → list_any p (elements (e.Throw n)) ≡ false
some-Throw p n = ap (list_any p) (elements-Throw n)

pub some-Paren : (p : Place → Bool) (x : Expr) → list_any p (elements (e.Paren x)) ≡ list_any p (elements x)
some-Paren p x = ap (list_any p) (elements-Paren x)

pub some-Minus : (p : Place → Bool) (x : Expr) → list_any p (elements (e.Minus x)) ≡ list_any p (elements x)
some-Minus p x = ap (list_any p) (elements-Minus x)

pub some-Not : (p : Place → Bool) (x : Expr) → list_any p (elements (e.Not x)) ≡ list_any p (elements x)
some-Not p x = ap (list_any p) (elements-Not x)

pub some-Chain : (p : Place → Bool) (x : Expr) (parts : List ChainPart) → list_any p (elements (e.Chain x parts)) ≡ (list_any p (elements x) || list_any (λ (y : ChainPart). list_any p (elements y.operand)) parts)
some-Chain p x parts = ap (list_any p) (elements-Chain x parts) ∙ list_any-append p (elements x) (flat_map (λ y. elements y.operand) parts) ∙ ap (λ t. list_any p (elements x) || t) (any_of_each p (λ (y : ChainPart). elements y.operand) parts)

pub some-Compare : (p : Place → Bool) (op : ScalarOp) (x y : Expr) → list_any p (elements (e.Compare op x y)) ≡ (list_any p (elements x) || list_any p (elements y))
some-Compare p op x y = ap (list_any p) (elements-Compare op x y) ∙ list_any-append p (elements x) (elements y)

pub some-All : (p : Place → Bool) (xs : List Expr) → list_any p (elements (e.All xs)) ≡ list_any (λ y. list_any p (elements y)) xs
some-All p xs = ap (list_any p) (elements-All xs) ∙ any_of_each p elements xs

pub some-Any : (p : Place → Bool) (xs : List Expr) → list_any p (elements (e.Any xs)) ≡ list_any (λ y. list_any p (elements y)) xs
some-Any p xs = ap (list_any p) (elements-Any xs) ∙ any_of_each p elements xs

pub some-If : (p : Place → Bool) (x y z : Expr) → list_any p (elements (e.If x y z)) ≡ ((list_any p (elements x) || list_any p (elements y)) || list_any p (elements z))
some-If p x y z = ap (list_any p) (elements-If x y z) ∙ list_any-append p (elements x ++ elements y) (elements z) ∙ ap (λ t. t || list_any p (elements z)) (list_any-append p (elements x) (elements y))

pub ruleset some_by_form = (some-Number, some-True, some-False, some-Name, some-Call, some-Element, some-Convert, some-Throw, some-Paren, some-Minus, some-Not, some-Chain, some-Compare, some-All, some-Any, some-If)

-- ---- statements of a body

-- lists that are made of parts, and then joined
parts_joined : (p : Place → Bool) (xs : List BodyStmt) → list_any p (flat_map (λ y. y) (map places xs)) ≡ list_any (λ y. list_any p (places y)) xs
parts_joined p [] = refl
parts_joined p (x ∷ xs) = list_any-append p (places x) (flat_map (λ y. y) (map places xs)) ∙ ap (λ t. list_any p (places x) || t) (parts_joined p xs)

pub stmt-Assign : (p : Place → Bool) (at : Place) (x : Expr) → list_any p (places (b.Assign at x)) ≡ any_of_write p at x
stmt-Assign p at x = ap (list_any p) (places-Assign at x) ∙ list_any-append p (at ∷ elements at.index) (elements x)

pub stmt-Let : (p : Place → Bool) (name : List ℕ) (x : Expr) → list_any p (places (b.Let name x)) ≡ list_any p (elements x)
stmt-Let p name x = ap (list_any p) (places-Let name x)

pub stmt-Combine : (p : Place → Bool) (name : List ℕ) (x : Expr) → list_any p (places (b.Combine name x)) ≡ list_any p (elements x)
stmt-Combine p name x = ap (list_any p) (places-Combine name x)

stmt-If : (p : Place → Bool) (x : Expr) (xs : List BodyStmt) (ys : Option (List BodyStmt)) → list_any p (places (b.If x xs ys)) ≡ ((list_any p (elements x) || list_any (λ y. list_any p (places y)) xs) || list_any p (else_places (option_map (map places) ys)))
stmt-If p x xs ys =
    ap (list_any p) (places-If x xs ys) ∙ list_any-append p (elements x ++ flat_map (λ y. y) (map places xs)) (else_places (option_map (map places) ys))
    ∙ ap (λ t. t || list_any p (else_places (option_map (map places) ys)))
    (list_any-append p (elements x) (flat_map (λ y. y) (map places xs)) ∙ ap (λ t. list_any p (elements x) || t) (parts_joined p xs))

pub stmt-VecOff : (p : Place → Bool) (xs : List BodyStmt) → list_any p (places (b.VecOff xs)) ≡ list_any (λ y. list_any p (places y)) xs
stmt-VecOff p xs = ap (list_any p) (places-VecOff xs) ∙ parts_joined p xs

pub stmt-Ordered : (p : Place → Bool) (at : Place) (op : ScalarOp) (x : Expr) → list_any p (places (b.Ordered at op x)) ≡ any_of_write p at x
stmt-Ordered p at op x = ap (list_any p) (places-Ordered at op x) ∙ list_any-append p (at ∷ elements at.index) (elements x)

pub stmt-IfElse : (p : Place → Bool) (x : Expr) (xs ys : List BodyStmt) → list_any p (places (b.If x xs (Some ys))) ≡ ((list_any p (elements x) || list_any (λ y. list_any p (places y)) xs) || list_any (λ y. list_any p (places y)) ys)
stmt-IfElse p x xs ys = stmt-If p x xs (Some ys) ∙ ap (λ t. (list_any p (elements x) || list_any (λ y. list_any p (places y)) xs) || t) (parts_joined p ys)

or_nothing : (t : Bool) → (t || false) ≡ t
or_nothing true = refl
or_nothing false = refl

pub stmt-IfAlone : (p : Place → Bool) (x : Expr) (xs : List BodyStmt) → list_any p (places (b.If x xs None)) ≡ (list_any p (elements x) || list_any (λ y. list_any p (places y)) xs)
stmt-IfAlone p x xs = stmt-If p x xs None ∙ or_nothing (list_any p (elements x) || list_any (λ y. list_any p (places y)) xs)

-- a branch that is taken where the other one is there, and where it is not
pub with_else : (p : Place → Bool) (s : BodyStmt) (x : Expr) (xs ys : List BodyStmt) (other : Option (List BodyStmt)) (before here : Bool) → s ≡ b.If x xs other → other ≡ Some ys
    → before ≡ (list_any p (elements x) || list_any (λ y. list_any p (places y)) xs) → here ≡ (before || list_any (λ y. list_any p (places y)) ys)
    → here ≡ list_any p (places s)
with_else p s x xs ys other before here is other_is e1 e2 =
    e2 ∙ ap (λ t. t || list_any (λ y. list_any p (places y)) ys) e1 ∙ sym (ap (λ t. list_any p (places t)) (is ∙ ap (b.If x xs) other_is) ∙ stmt-IfElse p x xs ys)

pub without_else : (p : Place → Bool) (s : BodyStmt) (x : Expr) (xs : List BodyStmt) (other : Option (List BodyStmt)) (before : Bool) → s ≡ b.If x xs other → other ≡ None
    → before ≡ (list_any p (elements x) || list_any (λ y. list_any p (places y)) xs) → before ≡ list_any p (places s)
without_else p s x xs other before is other_is e1 =
    e1 ∙ sym (ap (λ t. list_any p (places t)) (is ∙ ap (b.If x xs) other_is) ∙ stmt-IfAlone p x xs)

pub ruleset stmts_by_form = (stmt-Assign, stmt-Let, stmt-Combine, stmt-IfElse, stmt-IfAlone, stmt-VecOff, stmt-Ordered)
