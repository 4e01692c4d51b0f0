-- Conflicts of a call, and laws of calls without any.
use Rattle.std.specs.Prelude.{◌≡◌, ◌<◌, ℕ, ◌+◌, Bool, true, false, ◌||◌, Some, List, ◌++◌}
use Rattle.std.specs.Option.{option_map}
use Rattle.pts_orders.specs.Effects.{Cells, Locals, Effect, State, Change, with_change, step_of, TouchLaw, AreApart}
use Rattle.pts_orders.specs.Evaluations.{Evaluation, Each, is_within}
use Rattle.pts_orders.specs.Extensions.{IsLinearExtension}
use Rattle.pts_orders.specs.Grids.{index_order}
use Rattle.pts_orders.specs.Parts.{changed}
use Rattle.pts_orders.specs.Runs.{run, Commute}

-- two evaluations touch one cell, one of them writes, and the one at the lower position is not before the other
pub record Conflict {C : Type 0} (Touches : Evaluation → C → Type 0) (writes : Evaluation → Bool) (before : Evaluation → Evaluation → Bool)
    (x y : Evaluation) : Type 0 where
  pub positions : x.position < y.position
  pub cell : C
  pub first : Touches x cell
  pub second : Touches y cell
  pub one_writes : (writes x || writes y) ≡ true
  pub free : before x y ≡ false

-- no two evaluations conflict
abbrev pub IsClear : {C : Type 0} → (Evaluation → C → Type 0) → (Evaluation → Bool) → (Evaluation → Evaluation → Bool) → (Evaluation → Bool) → Type 0
IsClear Touches writes before is_evaluation =
    (x y : Evaluation) → is_evaluation x ≡ true → is_evaluation y ≡ true → ¬ Conflict Touches writes before x y

-- the points of one position are before one another as they follow
abbrev pub OrdersPoints : (Evaluation → Evaluation → Bool) → Type 0
OrdersPoints before = (x y : Evaluation) → x.position ≡ y.position → x.point < y.point → before x y ≡ true

-- evaluations that are apart commute
abbrev pub ApartCommute : (M C V L N : Type 0) → (Evaluation → C → Type 0) → Type 0
ApartCommute M C V L N Touches =
    (cells : Cells M C V) (notes : Locals L N) (effect : Evaluation → L → M → Effect C V N) (writes : Evaluation → Bool) → TouchLaw cells effect Touches writes
    → (x y : Evaluation) → AreApart Touches writes x y → Commute (step_of cells notes effect) x y

-- each linear extension of a call without conflict has the outcome of index order, from every state
abbrev pub ClearOrdersAgree : (M C V L N : Type 0) → (Evaluation → C → Type 0) → Type 0
ClearOrdersAgree M C V L N Touches =
    (cells : Cells M C V) (notes : Locals L N) (effect : Evaluation → L → M → Effect C V N) (writes : Evaluation → Bool) → TouchLaw cells effect Touches writes
    → (before : Evaluation → Evaluation → Bool) (positions first count : ℕ) → OrdersPoints before
    → IsClear Touches writes before (is_within 0 positions first (first + count))
    → (l : List Evaluation) → IsLinearExtension (is_within 0 positions first (first + count)) before l
    → (s : State M L) → run (step_of cells notes effect) l s ≡ run (step_of cells notes effect) (index_order positions first count) s

-- of two parts that are apart, the second may be run from the state before both; what the first has done is then made on top
abbrev pub ApartRunApart : (M C V L N : Type 0) → (Evaluation → C → Type 0) → Type 0
ApartRunApart M C V L N Touches =
    (cells : Cells M C V) (notes : Locals L N) (effect : Evaluation → L → M → Effect C V N) (writes : Evaluation → Bool) → TouchLaw cells effect Touches writes
    → (xs ys : List Evaluation) → Each (λ x. Each (AreApart Touches writes x) ys) xs
    → (s t : State M L) → run (step_of cells notes effect) xs s ≡ Some t
    → (done : List (Change C V N)) × (t ≡ changed (with_change cells notes) done s)
    × (run (step_of cells notes effect) (xs ++ ys) s
    ≡ option_map (changed (with_change cells notes) done) (run (step_of cells notes effect) ys s))
