-- Calls without conflict.
use Rattle.std.proofs.Common.{◌≡◌, ◌<◌, ℕ, ◌+◌, Bool, true, false, ◌||◌, Some, List, ◌++◌, refl, ap, sym, ◌∙◌, arith}
use Rattle.std.proofs.lemmas.Bool.Decides.{nat_tests}
use Rattle.std.specs.Option.{option_map}
use Rattle.pts_orders.specs.Conflicts.{Conflict, IsClear, OrdersPoints}
use Rattle.pts_orders.specs.Effects.{Cells, Locals, Effect, State, Change, with_change, step_of, TouchLaw, AreApart}
use Rattle.pts_orders.specs.Evaluations.{Evaluation, Each, is_within, is_earlier}
use Rattle.pts_orders.specs.Extensions.{IsLinearExtension}
use Rattle.pts_orders.specs.Grids.{index_order}
use Rattle.pts_orders.specs.Parts.{changed, IsBeside}
use Rattle.pts_orders.specs.Runs.{run}
use Rattle.pts_orders.proofs.IndexOrder.{extensions_agree}
use Rattle.pts_orders.proofs.Lists.{each_weaker}
use Rattle.pts_orders.proofs.SideBySide.{run_apart}
use Rattle.pts_orders.proofs.Apart.{commute, beside}

-- what is earlier and not before is at a lower position
lower : (before : Evaluation → Evaluation → Bool) → OrdersPoints before → (x y : Evaluation) → is_earlier x y ≡ true → before x y ≡ false
    → x.position < y.position
lower before points x y earlier free =
    let same : x.position ≡ y.position → x.point < y.point → ⊥ = λ e h. let yes = points x y e h in let clash : true ≡ false = sym yes ∙ free in absurd cc in
    grind (arith, nat_tests)

-- evaluations that do not conflict are apart
apart : {C : Type 0} (Touches : Evaluation → C → Type 0) (writes : Evaluation → Bool) (before : Evaluation → Evaluation → Bool) (x y : Evaluation)
    → x.position < y.position → before x y ≡ false → ¬ Conflict Touches writes before x y → AreApart Touches writes y x
apart {C} Touches writes before x y h free none = record {
  positions = λ e. absurd (omega arith);
  first = λ c a b. (neither c b a).1;
  second = λ c a b. (neither c b a).0;
}
  where
    neither : (c : C) → Touches x c → Touches y c → (writes x ≡ false) × (writes y ≡ false)
    neither c a b = by (writes x) refl (writes y) refl
      where
        clash : (writes x || writes y) ≡ true → ⊥
        clash e = none (record { positions = h; cell = c; first = a; second = b; one_writes = e; free = free })

        by : (e : Bool) → writes x ≡ e → (f : Bool) → writes y ≡ f → (writes x ≡ false) × (writes y ≡ false)
        by false p false q = (p, q)
        by true p f q = absurd (clash (ap (λ b. b || writes y) p))
        by false p true q = absurd (clash (ap (λ b. b || writes y) p ∙ q))

-- without conflict a linear extension has the outcome of index order
pub clear_orders_agree : {M C V L N : Type 0} (Touches : Evaluation → C → Type 0) (cells : Cells M C V) (notes : Locals L N)
    (effect : Evaluation → L → M → Effect C V N) (writes : Evaluation → Bool) → TouchLaw cells effect Touches writes
    → (before : Evaluation → Evaluation → Bool) (n first m : ℕ) → OrdersPoints before
    → IsClear Touches writes before (is_within 0 n first (first + m))
    → (l : List Evaluation) → IsLinearExtension (is_within 0 n first (first + m)) before l
    → (s : State M L) → run (step_of cells notes effect) l s ≡ run (step_of cells notes effect) (index_order n first m) s
clear_orders_agree Touches cells notes effect writes law before n first m points clear l extends s =
    extensions_agree (step_of cells notes effect) before n first m (λ x y a b earlier free.
    commute cells notes effect Touches writes law y x
    (apart Touches writes before x y (lower before points x y earlier free) free (clear x y a b)))
    l extends s

-- parts that are apart may both be run from the state before them
pub apart_run_apart : {M C V L N : Type 0} (Touches : Evaluation → C → Type 0) (cells : Cells M C V) (notes : Locals L N)
    (effect : Evaluation → L → M → Effect C V N) (writes : Evaluation → Bool) → TouchLaw cells effect Touches writes
    → (xs ys : List Evaluation) → Each (λ x. Each (AreApart Touches writes x) ys) xs
    → (s t : State M L) → run (step_of cells notes effect) xs s ≡ Some t
    → (done : List (Change C V N)) × (t ≡ changed (with_change cells notes) done s)
    × (run (step_of cells notes effect) (xs ++ ys) s
    ≡ option_map (changed (with_change cells notes) done) (run (step_of cells notes effect) ys s))
apart_run_apart Touches cells notes effect writes law xs ys h =
    run_apart (step_of cells notes effect) (with_change cells notes) xs ys
    (each_weaker (λ x. Each (AreApart Touches writes x) ys) (IsBeside (step_of cells notes effect) (with_change cells notes) ys)
    (λ x apart. beside cells notes effect Touches writes law x ys apart) xs h)
