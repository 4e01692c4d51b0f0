-- The first position that the elements of an expression, or of a statement of a body, give.
use Rattle.std.proofs.Common.{◌≡◌, ℕ, Option, Some, None, List, [], ◌∷◌, ◌++◌, map, refl, ap, sym, ◌∙◌}
use Rattle.std.specs.Prelude.{flat_map, option_map}
use Rattle.pts_types.specs.declared.value.Kind.{Kind}
use Rattle.pts_types.specs.declared.operation.ScalarOp.{ScalarOp}
use Rattle.pts_tree.specs.declared.expr.Expr.{Expr}
use Rattle.pts_tree.specs.declared.expr.Expr.TheVariants as e
use Rattle.pts_tree.specs.declared.expr.ChainPart.{ChainPart}
use Rattle.pts_tree.specs.declared.expr.Place.{Place}
use Rattle.pts_tree.specs.declared.loops.BodyStmt.{BodyStmt}
use Rattle.pts_tree.specs.declared.loops.BodyStmt.TheVariants as b
use Rattle.pts_rules.specs.Indices.{elements, places, else_places}
use Rattle.pts_rules.proofs.Elements.{elements-Number, elements-True, elements-False, elements-Name, elements-Call, elements-Element, elements-Convert, elements-Throw, elements-Paren, elements-Minus, elements-Not, elements-Chain, elements-Compare, elements-All, elements-Any, elements-If}
use Rattle.pts_rules.proofs.Bodies.{places-Assign, places-Let, places-Combine, places-If, places-VecOff, places-Ordered}
use Rattle.pts_bounds.specs.Firsts.{sooner, soonest}
use Rattle.pts_bounds.specs.Walks.{first_of_write}
use Rattle.pts_bounds.proofs.Soonest.{sooner_none, soonest_append, soonest_each}

pub first-Number : (f : Place → Option ℕ) (n : ℕ) → soonest f (elements (e.Number n)) ≡ None
first-Number f n = ap (soonest f) (elements-Number n)

pub first-True : (f : Place → Option ℕ) → soonest f (elements e.True) ≡ None
first-True f = ap (soonest f) elements-True

pub first-False : (f : Place → Option ℕ) → soonest f (elements e.False) ≡ None
first-False f = ap (soonest f) elements-False

pub first-Name : (f : Place → Option ℕ) (name : List ℕ) → soonest f (elements (e.Name name)) ≡ None
first-Name f name = ap (soonest f) (elements-Name name)

pub first-Call : (f : Place → Option ℕ) (name : List ℕ) (xs : List Expr) → soonest f (elements (e.Call name xs)) ≡ soonest (λ y. soonest f (elements y)) xs
first-Call f name xs = ap (soonest f) (elements-Call name xs) ∙ soonest_each f elements xs

pub first-Element : (f : Place → Option ℕ) (name : List ℕ) (x : Expr) → soonest f (elements (e.Element name x)) ≡ sooner (f (record { array = name; index = x })) (soonest f (elements x))
first-Element f name x = ap (soonest f) (elements-Element name x)

pub first-Convert : (f : Place → Option ℕ) (to : Kind) (x : Expr) → soonest f (elements (e.Convert to x)) ≡ soonest f (elements x)
first-Convert f to x = ap (soonest f) (elements-Convert to x)

pub first-Throw : (f : Place → Option ℕ) (n : ℕ) → soonest f (elements (e.Throw n)) ≡ None
first-Throw f n = ap (soonest f) (elements-Throw n)

pub first-Paren : (f : Place → Option ℕ) (x : Expr) → soonest f (elements (e.Paren x)) ≡ soonest f (elements x)
first-Paren f x = ap (soonest f) (elements-Paren x)

pub first-Minus : (f : Place → Option ℕ) (x : Expr) → soonest f (elements (e.Minus x)) ≡ soonest f (elements x)
first-Minus f x = ap (soonest f) (elements-Minus x)

pub first-Not : (f : Place → Option ℕ) (x : Expr) → soonest f (elements (e.Not x)) ≡ soonest f (elements x)
first-Not f x = ap (soonest f) (elements-Not x)

pub first-Chain : (f : Place → Option ℕ) (x : Expr) (parts : List ChainPart) → soonest f (elements (e.Chain x parts)) ≡ sooner (soonest f (elements x)) (soonest (λ (y : ChainPart). soonest f (elements y.operand)) parts)
first-Chain f x parts = ap (soonest f) (elements-Chain x parts) ∙ soonest_append f (elements x) (flat_map (λ y. elements y.operand) parts) ∙ ap (λ t. sooner (soonest f (elements x)) t) (soonest_each f (λ (y : ChainPart). elements y.operand) parts)

pub first-Compare : (f : Place → Option ℕ) (op : ScalarOp) (x y : Expr) → soonest f (elements (e.Compare op x y)) ≡ sooner (soonest f (elements x)) (soonest f (elements y))
first-Compare f op x y = ap (soonest f) (elements-Compare op x y) ∙ soonest_append f (elements x) (elements y)

pub first-All : (f : Place → Option ℕ) (xs : List Expr) → soonest f (elements (e.All xs)) ≡ soonest (λ y. soonest f (elements y)) xs
first-All f xs = ap (soonest f) (elements-All xs) ∙ soonest_each f elements xs

pub first-Any : (f : Place → Option ℕ) (xs : List Expr) → soonest f (elements (e.Any xs)) ≡ soonest (λ y. soonest f (elements y)) xs
first-Any f xs = ap (soonest f) (elements-Any xs) ∙ soonest_each f elements xs

pub first-If : (f : Place → Option ℕ) (x y z : Expr) → soonest f (elements (e.If x y z)) ≡ sooner (sooner (soonest f (elements x)) (soonest f (elements y))) (soonest f (elements z))
first-If f x y z = ap (soonest f) (elements-If x y z) ∙ soonest_append f (elements x ++ elements y) (elements z) ∙ ap (λ t. sooner t (soonest f (elements z))) (soonest_append f (elements x) (elements y))

pub ruleset elements_by_form = (first-Number, first-True, first-False, first-Name, first-Call, first-Element, first-Convert, first-Throw, first-Paren, first-Minus, first-Not, first-Chain, first-Compare, first-All, first-Any, first-If)

-- ---- statements of a body

-- lists that are made of parts, and then joined
parts_joined : (f : Place → Option ℕ) (xs : List BodyStmt) → soonest f (flat_map (λ y. y) (map places xs)) ≡ soonest (λ y. soonest f (places y)) xs
parts_joined f [] = refl
parts_joined f (x ∷ xs) = soonest_append f (places x) (flat_map (λ y. y) (map places xs)) ∙ ap (λ t. sooner (soonest f (places x)) t) (parts_joined f xs)

pub stmt-Assign : (f : Place → Option ℕ) (at : Place) (x : Expr) → soonest f (places (b.Assign at x)) ≡ first_of_write f at x
stmt-Assign f at x = ap (soonest f) (places-Assign at x) ∙ soonest_append f (at ∷ elements at.index) (elements x)

pub stmt-Let : (f : Place → Option ℕ) (name : List ℕ) (x : Expr) → soonest f (places (b.Let name x)) ≡ soonest f (elements x)
stmt-Let f name x = ap (soonest f) (places-Let name x)

pub stmt-Combine : (f : Place → Option ℕ) (name : List ℕ) (x : Expr) → soonest f (places (b.Combine name x)) ≡ soonest f (elements x)
stmt-Combine f name x = ap (soonest f) (places-Combine name x)

-- a branch that is there, and one that is not
else-If : (f : Place → Option ℕ) (x : Expr) (xs : List BodyStmt) (ys : Option (List BodyStmt)) → soonest f (places (b.If x xs ys)) ≡ sooner (sooner (soonest f (elements x)) (soonest (λ y. soonest f (places y)) xs)) (soonest f (else_places (option_map (map places) ys)))
else-If f x xs ys =
    ap (soonest f) (places-If x xs ys) ∙ soonest_append f (elements x ++ flat_map (λ y. y) (map places xs)) (else_places (option_map (map places) ys))
    ∙ ap (λ t. sooner t (soonest f (else_places (option_map (map places) ys))))
    (soonest_append f (elements x) (flat_map (λ y. y) (map places xs)) ∙ ap (λ t. sooner (soonest f (elements x)) t) (parts_joined f xs))

pub stmt-If-Some : (f : Place → Option ℕ) (x : Expr) (xs ys : List BodyStmt) → soonest f (places (b.If x xs (Some ys))) ≡ sooner (sooner (soonest f (elements x)) (soonest (λ y. soonest f (places y)) xs)) (soonest (λ y. soonest f (places y)) ys)
stmt-If-Some f x xs ys = else-If f x xs (Some ys) ∙ ap (λ t. sooner (sooner (soonest f (elements x)) (soonest (λ y. soonest f (places y)) xs)) t) (parts_joined f ys)

pub stmt-If-None : (f : Place → Option ℕ) (x : Expr) (xs : List BodyStmt) → soonest f (places (b.If x xs None)) ≡ sooner (soonest f (elements x)) (soonest (λ y. soonest f (places y)) xs)
stmt-If-None f x xs = else-If f x xs None ∙ sooner_none (sooner (soonest f (elements x)) (soonest (λ y. soonest f (places y)) xs))

pub stmt-VecOff : (f : Place → Option ℕ) (xs : List BodyStmt) → soonest f (places (b.VecOff xs)) ≡ soonest (λ y. soonest f (places y)) xs
stmt-VecOff f xs = ap (soonest f) (places-VecOff xs) ∙ parts_joined f xs

pub stmt-Ordered : (f : Place → Option ℕ) (at : Place) (op : ScalarOp) (x : Expr) → soonest f (places (b.Ordered at op x)) ≡ first_of_write f at x
stmt-Ordered f at op x = ap (soonest f) (places-Ordered at op x) ∙ soonest_append f (at ∷ elements at.index) (elements x)

pub ruleset places_by_form = (stmt-Assign, stmt-Let, stmt-Combine, stmt-If-Some, stmt-If-None, stmt-VecOff, stmt-Ordered)

-- an `if` with both branches
pub branches_found : (f : Place → Option ℕ) (stmt : BodyStmt) (x : Expr) (xs ys then other : List BodyStmt) (branch : Option (List BodyStmt)) (p q r : Option ℕ)
    → stmt ≡ b.If x xs branch → branch ≡ Some ys → then ≡ xs → other ≡ ys
    → p ≡ soonest f (elements x) → q ≡ soonest (λ y. soonest f (places y)) then → r ≡ soonest (λ y. soonest f (places y)) other
    → sooner (sooner p q) r ≡ soonest f (places stmt)
branches_found f stmt x xs ys then other branch p q r is there same_then same_other e1 e2 e3 =
    (λ i. sooner (sooner (e1 i) (e2 i)) (e3 i))
    ∙ (λ i. sooner (sooner (soonest f (elements x)) (soonest (λ y. soonest f (places y)) (same_then i))) (soonest (λ y. soonest f (places y)) (same_other i)))
    ∙ sym (stmt-If-Some f x xs ys) ∙ ap (λ z. soonest f (places (b.If x xs z))) (sym there) ∙ ap (λ z. soonest f (places z)) (sym is)
