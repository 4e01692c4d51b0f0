-- The first position that the statements of blocks give, and what holds of each of them.
use Rattle.std.proofs.Common.{◌≡◌, ℕ, ◌<◌, Bool, true, false, Option, None, List, [], ◌∷◌, length, get_or, suc, zero, refl, ap, sym, subst, ◌∙◌, arith}
use Rattle.std.specs.Prelude.{◌&&◌, IsTrue, flat_map}
use Rattle.std.specs.List.{list_all}
use Rattle.std.proofs.lemmas.Bool.{and_parts}
use Rattle.std.proofs.lemmas.List.Folds.{list_all-append}
use Rattle.pts_tree.specs.declared.sum.Cell.{Cell}
use Rattle.pts_tree.specs.declared.call.Call as call
use Rattle.pts_tree.specs.declared.expr.Expr.{Expr}
use Rattle.pts_tree.specs.declared.loops.Loop as loops
use Rattle.pts_tree.specs.declared.block.Block.{Block}
use Rattle.pts_tree.specs.declared.block.TaskStmt.{TaskStmt}
use Rattle.pts_tree.specs.declared.block.TaskStmt.TheVariants as t
use Rattle.pts_rules.specs.Parts.{Simple, Throw, Assign, Call, Loop, block_statements}
use Rattle.pts_rules.proofs.Tasks.{task_statements, statements-Run, statements-Wait, statements-Throw, statements-Assign, statements-Call, statements-Loop, statements-Block, statements-body}
use Rattle.pts_bounds.specs.Firsts.{soonest}
use Rattle.pts_bounds.proofs.Soonest.{soonest_each, soonest_one}

pub first-Run : (f : Simple → Option ℕ) (xs : List TaskStmt) → soonest f (task_statements (t.Run xs)) ≡ soonest (λ x. soonest f (task_statements x)) xs
first-Run f xs = ap (soonest f) (statements-Run xs) ∙ soonest_each f task_statements xs

pub first-Wait : (f : Simple → Option ℕ) → soonest f (task_statements t.Wait) ≡ None
first-Wait f = ap (soonest f) statements-Wait

pub first-Throw : (f : Simple → Option ℕ) (n : ℕ) → soonest f (task_statements (t.Throw n)) ≡ f (Throw n)
first-Throw f n = ap (soonest f) (statements-Throw n) ∙ soonest_one f (Throw n)

pub first-Assign : (f : Simple → Option ℕ) (at : Cell) (x : Expr) → soonest f (task_statements (t.Assign at x)) ≡ f (Assign at x)
first-Assign f at x = ap (soonest f) (statements-Assign at x) ∙ soonest_one f (Assign at x)

pub first-Call : (f : Simple → Option ℕ) (x : call.Call) → soonest f (task_statements (t.Call x)) ≡ f (Call x)
first-Call f x = ap (soonest f) (statements-Call x) ∙ soonest_one f (Call x)

pub first-Loop : (f : Simple → Option ℕ) (x : loops.Loop) → soonest f (task_statements (t.Loop x)) ≡ f (Loop x)
first-Loop f x = ap (soonest f) (statements-Loop x) ∙ soonest_one f (Loop x)

pub first-Block : (f : Simple → Option ℕ) (x : Block) → soonest f (task_statements (t.Block x)) ≡ soonest f (block_statements x)
first-Block f x = ap (soonest f) (statements-Block x)

pub first-body : (f : Simple → Option ℕ) (x : Block) → soonest f (block_statements x) ≡ soonest (λ y. soonest f (task_statements y)) x.body
first-body f x = ap (soonest f) (statements-body x) ∙ soonest_each f task_statements x.body

-- ---- what holds of every statement

all_of_each : {A B : Type 0} (p : B → Bool) (f : A → List B) (xs : List A) → list_all p (flat_map f xs) ≡ list_all (λ x. list_all p (f x)) xs
all_of_each p f [] = refl
all_of_each p f (x ∷ xs) = list_all-append p (f x) (flat_map f xs) ∙ ap (λ b. list_all p (f x) && b) (all_of_each p f xs)

pub and_true : (b : Bool) → (b && true) ≡ b
and_true true = refl
and_true false = refl

pub all-Run : (p : Simple → Bool) (xs : List TaskStmt) → list_all p (task_statements (t.Run xs)) ≡ list_all (λ x. list_all p (task_statements x)) xs
all-Run p xs = ap (list_all p) (statements-Run xs) ∙ all_of_each p task_statements xs

pub all-Call : (p : Simple → Bool) (x : call.Call) → list_all p (task_statements (t.Call x)) ≡ p (Call x)
all-Call p x = ap (list_all p) (statements-Call x) ∙ and_true (p (Call x))

pub all-Loop : (p : Simple → Bool) (x : loops.Loop) → list_all p (task_statements (t.Loop x)) ≡ p (Loop x)
all-Loop p x = ap (list_all p) (statements-Loop x) ∙ and_true (p (Loop x))

pub all-Block : (p : Simple → Bool) (x : Block) → list_all p (task_statements (t.Block x)) ≡ list_all p (block_statements x)
all-Block p x = ap (list_all p) (statements-Block x)

pub all-body : (p : Simple → Bool) (x : Block) → list_all p (block_statements x) ≡ list_all (λ y. list_all p (task_statements y)) x.body
all-body p x = ap (list_all p) (statements-body x) ∙ all_of_each p task_statements x.body

pub ruleset tasks_by_form = (first-Run, first-Wait, first-Throw, first-Assign, first-Call, first-Loop, first-Block, first-body, all-Call, all-Loop)

-- the statements inside a statement
pub run_holds : (p : Simple → Bool) (x : TaskStmt) (ys xs : List TaskStmt) → x ≡ t.Run ys → xs ≡ ys → IsTrue (list_all p (task_statements x)) → IsTrue (list_all (λ y. list_all p (task_statements y)) xs)
run_holds p x ys xs e k h = ap (list_all (λ y. list_all p (task_statements y))) k ∙ sym (all-Run p ys) ∙ ap (λ y. list_all p (task_statements y)) (sym e) ∙ h

pub block_holds : (p : Simple → Bool) (x : TaskStmt) (y : Block) → x ≡ t.Block y → IsTrue (list_all p (task_statements x)) → IsTrue (list_all p (block_statements y))
block_holds p x y e h = sym (all-Block p y) ∙ ap (λ z. list_all p (task_statements z)) (sym e) ∙ h

pub body_holds : (p : Simple → Bool) (x : Block) (xs : List TaskStmt) → xs ≡ x.body → IsTrue (list_all p (block_statements x)) → IsTrue (list_all (λ y. list_all p (task_statements y)) xs)
body_holds p x xs k h = ap (list_all (λ y. list_all p (task_statements y))) k ∙ sym (all-body p x) ∙ h

-- what holds of each holds of one
pub element_holds : (p : Simple → Bool) (xs : List TaskStmt) (n : ℕ) (x : TaskStmt) → n < length xs → x ≡ get_or xs n x
    → IsTrue (list_all (λ y. list_all p (task_statements y)) xs) → IsTrue (list_all p (task_statements x))
element_holds p [] n x within is all = absurd (omega (arith, within))
element_holds p (y ∷ ys) zero x within is all =
    subst (λ (z : TaskStmt). IsTrue (list_all p (task_statements z))) (sym is) (and_parts (list_all p (task_statements y)) (list_all (λ z. list_all p (task_statements z)) ys) all).0
element_holds p (y ∷ ys) (suc n) x within is all =
    element_holds p ys n x (omega (arith, within)) is (and_parts (list_all p (task_statements y)) (list_all (λ z. list_all p (task_statements z)) ys) all).1

pub ruleset statements_hold = (run_holds, block_holds, body_holds)
