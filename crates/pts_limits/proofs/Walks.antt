-- Walks over the statements of blocks, statement by statement.
use Rattle.std.proofs.Common.{◌≡◌, ℕ, ◌+◌, Bool, true, false, List, [], ◌∷◌, map, refl, sym, ap, ◌∙◌, arith}
use Rattle.std.specs.Prelude.{◌||◌, flat_map, sum}
use Rattle.std.specs.List.{list_any}
use Rattle.std.proofs.lemmas.List.{map-append}
use Rattle.std.proofs.lemmas.List.Folds.{list_any-append}
use Rattle.std.proofs.lemmas.List.Sums.{sum_by-append, sum_by-cons}
use Rattle.pts_tree.specs.declared.sum.Cell.{Cell}
use Rattle.pts_tree.specs.declared.call.Call as call
use Rattle.pts_tree.specs.declared.expr.Expr.{Expr}
use Rattle.pts_tree.specs.declared.loops.Loop as loops
use Rattle.pts_tree.specs.declared.block.Block.{Block}
use Rattle.pts_tree.specs.declared.block.TaskStmt.{TaskStmt}
use Rattle.pts_tree.specs.declared.block.TaskStmt.TheVariants as t
use Rattle.pts_rules.specs.Parts.{Simple, Throw, Assign, Call, Loop, block_statements}
use Rattle.pts_rules.specs.Counts.{statement_points}
use Rattle.pts_rules.proofs.Tasks.{task_statements, statements-Run, statements-Wait, statements-Throw, statements-Assign, statements-Call, statements-Loop, statements-Block, statements-body}

-- a test of what the elements of a list give
pub any_of_each : {A B : Type 0} (p : B → Bool) (f : A → List B) (xs : List A) → list_any p (flat_map f xs) ≡ list_any (λ x. list_any p (f x)) xs
any_of_each p f [] = refl
any_of_each p f (x ∷ xs) = list_any-append p (f x) (flat_map f xs) ∙ ap (λ b. list_any p (f x) || b) (any_of_each p f xs)

pub any-Run : (p : Simple → Bool) (xs : List TaskStmt) → list_any p (task_statements (t.Run xs)) ≡ list_any (λ x. list_any p (task_statements x)) xs
any-Run p xs = ap (list_any p) (statements-Run xs) ∙ any_of_each p task_statements xs

pub any-Wait : (p : Simple → Bool) → list_any p (task_statements t.Wait) ≡ false
any-Wait p = ap (list_any p) statements-Wait

or_false : (b : Bool) → (b || false) ≡ b
or_false true = refl
or_false false = refl

pub any-Throw : (p : Simple → Bool) (n : ℕ) → list_any p (task_statements (t.Throw n)) ≡ p (Throw n)
any-Throw p n = ap (list_any p) (statements-Throw n) ∙ or_false (p (Throw n))

pub any-Assign : (p : Simple → Bool) (at : Cell) (x : Expr) → list_any p (task_statements (t.Assign at x)) ≡ p (Assign at x)
any-Assign p at x = ap (list_any p) (statements-Assign at x) ∙ or_false (p (Assign at x))

pub any-Call : (p : Simple → Bool) (x : call.Call) → list_any p (task_statements (t.Call x)) ≡ p (Call x)
any-Call p x = ap (list_any p) (statements-Call x) ∙ or_false (p (Call x))

pub any-Loop : (p : Simple → Bool) (x : loops.Loop) → list_any p (task_statements (t.Loop x)) ≡ p (Loop x)
any-Loop p x = ap (list_any p) (statements-Loop x) ∙ or_false (p (Loop x))

pub any-Block : (p : Simple → Bool) (x : Block) → list_any p (task_statements (t.Block x)) ≡ list_any p (block_statements x)
any-Block p x = ap (list_any p) (statements-Block x)

pub any-body : (p : Simple → Bool) (x : Block) → list_any p (block_statements x) ≡ list_any (λ y. list_any p (task_statements y)) x.body
any-body p x = ap (list_any p) (statements-body x) ∙ any_of_each p task_statements x.body

pub ruleset any_by_form = (any-Run, any-Wait, any-Throw, any-Assign, any-Call, any-Loop, any-Block, any-body)

-- ---- sums

sum_of_each : {A B : Type 0} (g : B → ℕ) (f : A → List B) (xs : List A) → sum (map g (flat_map f xs)) ≡ sum (map (λ x. sum (map g (f x))) xs)
sum_of_each g f [] = refl
sum_of_each g f (x ∷ xs) =
    ap sum (map-append g (f x) (flat_map f xs)) ∙ sum_by-append (λ n. n) (map g (f x)) (map g (flat_map f xs))
    ∙ ap (λ n. sum (map g (f x)) + n) (sum_of_each g f xs)
    ∙ sym (sum_by-cons (λ n. n) (sum (map g (f x))) (map (λ y. sum (map g (f y))) xs))

sum_one : (n : ℕ) → sum (n ∷ []) ≡ n
sum_one n = omega arith

pub points-Run : (xs : List TaskStmt) → sum (map statement_points (task_statements (t.Run xs))) ≡ sum (map (λ x. sum (map statement_points (task_statements x))) xs)
points-Run xs = ap (λ ys. sum (map statement_points ys)) (statements-Run xs) ∙ sum_of_each statement_points task_statements xs

pub points-Wait : sum (map statement_points (task_statements t.Wait)) ≡ 0
points-Wait = ap (λ ys. sum (map statement_points ys)) statements-Wait

pub points-Throw : (n : ℕ) → sum (map statement_points (task_statements (t.Throw n))) ≡ 0
points-Throw n = ap (λ ys. sum (map statement_points ys)) (statements-Throw n)

pub points-Assign : (at : Cell) (x : Expr) → sum (map statement_points (task_statements (t.Assign at x))) ≡ statement_points (Assign at x)
points-Assign at x = ap (λ ys. sum (map statement_points ys)) (statements-Assign at x) ∙ sum_one (statement_points (Assign at x))

pub points-Call : (x : call.Call) → sum (map statement_points (task_statements (t.Call x))) ≡ statement_points (Call x)
points-Call x = ap (λ ys. sum (map statement_points ys)) (statements-Call x) ∙ sum_one (statement_points (Call x))

pub points-Loop : (x : loops.Loop) → sum (map statement_points (task_statements (t.Loop x))) ≡ statement_points (Loop x)
points-Loop x = ap (λ ys. sum (map statement_points ys)) (statements-Loop x) ∙ sum_one (statement_points (Loop x))

pub points-Block : (x : Block) → sum (map statement_points (task_statements (t.Block x))) ≡ sum (map statement_points (block_statements x))
points-Block x = ap (λ ys. sum (map statement_points ys)) (statements-Block x)

pub points-body : (x : Block) → sum (map statement_points (block_statements x)) ≡ sum (map (λ y. sum (map statement_points (task_statements y))) x.body)
points-body x = ap (λ ys. sum (map statement_points ys)) (statements-body x) ∙ sum_of_each statement_points task_statements x.body

pub ruleset points_by_form = (points-Run, points-Wait, points-Throw, points-Assign, points-Call, points-Loop, points-Block, points-body)
