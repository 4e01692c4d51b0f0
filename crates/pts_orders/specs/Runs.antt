-- What comes of evaluations that are run along a list.
use Rattle.std.specs.Prelude.{◌≡◌, Bool, false, Option, Some, List, [], ◌∷◌}
use Rattle.std.specs.Option.{option_and_then}
use Rattle.pts_orders.specs.Evaluations.{Evaluation}

-- one after the other; the first that throws ends the run, and None says so
abbrev pub run : {S : Type 0} → (Evaluation → S → Option S) → List Evaluation → S → Option S
run step [] s = Some s
run step (x ∷ xs) s = option_and_then (run step xs) (step x s)

-- either of the two may go first
abbrev pub Commute : {S : Type 0} → (Evaluation → S → Option S) → Evaluation → Evaluation → Type 0
Commute {S} step x y = (s : S) → option_and_then (step y) (step x s) ≡ option_and_then (step x) (step y s)

-- evaluations may be swapped where the one that is earlier in index order is not before the other
abbrev pub MaySwap : {S : Type 0} → (Evaluation → S → Option S) → (Evaluation → Evaluation → Bool) → Evaluation → Evaluation → Type 0
MaySwap step before x y = before x y ≡ false → Commute step y x
