-- Laws of orders.
use Rattle.std.specs.Prelude.{◌≡◌, ◌↔◌, ℕ, suc, ◌+◌, ◌≤◌, ◌<◌, Bool, true, false, Option, Some, List, [], ◌∷◌, ◌++◌, nat_lt}
use Rattle.std.specs.Option.{option_map}
use Rattle.pts_orders.specs.Evaluations.{Evaluation, Each, is_within, is_earlier, one_if}
use Rattle.pts_orders.specs.Extensions.{IsLinearExtension, IsInOrder, IsIrreflexive, GoesForward, StaysAtPositions, IsCut, AreCuts}
use Rattle.pts_orders.specs.Grids.{index_order, strips, singles, part_ends, Rises, Chunk, chunks, chunks_with}
use Rattle.pts_orders.specs.Parts.{IsUnmoved, IsBeside, changed}
use Rattle.pts_orders.specs.Runs.{run, MaySwap}

-- a list is a linear extension exactly where each evaluation stands in it once, and at a lower place than those that it is before
abbrev pub PlacesTell : Type 0
PlacesTell =
    (is_evaluation : Evaluation → Bool) (before : Evaluation → Evaluation → Bool) → IsIrreflexive before
    → (l : List Evaluation) → IsLinearExtension is_evaluation before l ↔ IsInOrder is_evaluation before l

-- index order is a linear extension of each order that goes forward
abbrev pub IndexOrderExtends : Type 0
IndexOrderExtends =
    (before : Evaluation → Evaluation → Bool) (positions first count : ℕ) → GoesForward (is_within 0 positions first (first + count)) before
    → IsLinearExtension (is_within 0 positions first (first + count)) before (index_order positions first count)

-- a linear extension has the outcome of index order from every state, where evaluations of which neither is before the other commute
abbrev pub OrdersAgree : Type 0 → Type 0
OrdersAgree S =
    (step : Evaluation → S → Option S) (before : Evaluation → Evaluation → Bool) (positions first count : ℕ)
    → ((x y : Evaluation) → is_within 0 positions first (first + count) x ≡ true → is_within 0 positions first (first + count) y ≡ true
    → is_earlier x y ≡ true → MaySwap step before x y)
    → (l : List Evaluation) → IsLinearExtension (is_within 0 positions first (first + count)) before l
    → (s : S) → run step l s ≡ run step (index_order positions first count) s

-- strips of all positions, with parts of all points that are cut at cuts, are a linear extension of each order that goes forward
abbrev pub StripsExtend : Type 0
StripsExtend =
    (before : Evaluation → Evaluation → Bool) (positions first last : ℕ) (rows ends : List ℕ)
    → GoesForward (is_within 0 positions first last) before → AreCuts (is_within 0 positions first last) before ends → Rises 0 rows positions → Rises first ends last
    → IsLinearExtension (is_within 0 positions first last) before (strips 0 rows first ends)

-- parts end at cuts where each point that is not joined to the next one ends before a cut
abbrev pub PartsEndAtCuts : Type 0
PartsEndAtCuts =
    (before : Evaluation → Evaluation → Bool) (joined : ℕ → Bool) (positions first count : ℕ)
    → ((k : ℕ) → first ≤ k → suc k < first + count → joined k ≡ false → IsCut (is_within 0 positions first (first + count)) before (suc k))
    → AreCuts (is_within 0 positions first (first + count)) before (part_ends joined first count)
    × Rises first (part_ends joined first count) (first + count)

-- index order is strips of one position each, with all points in one part
abbrev pub IndexOrderIsStrips : Type 0
IndexOrderIsStrips =
    (positions first count : ℕ) → (strips 0 (singles 0 positions) first ((first + count) ∷ []) ≡ index_order positions first count) × Rises 0 (singles 0 positions) positions

-- chunks in any order are one, of each order that goes forward and stays at positions, where each position is in one of them
abbrev pub ChunksExtend : Type 0
ChunksExtend =
    (before : Evaluation → Evaluation → Bool) (positions first count : ℕ) (parts : List Chunk)
    → GoesForward (is_within 0 positions first (first + count)) before → StaysAtPositions before → ((position : ℕ) → chunks_with position parts ≡ one_if (nat_lt position positions))
    → IsLinearExtension (is_within 0 positions first (first + count)) before (chunks first count parts)

-- a change that moves none of the evaluations may be made before the run or after it
abbrev pub ChangesMayWait : Type 0 → Type 0
ChangesMayWait S =
    (step : Evaluation → S → Option S) (change : S → S) (l : List Evaluation) → Each (IsUnmoved step change) l
    → (s : S) → run step l (change s) ≡ option_map change (run step l s)

-- of two parts, the second may be run from the state before both; what the first changes is then made on top
abbrev pub PartsRunApart : Type 0 → Type 0 → Type 0
PartsRunApart S C =
    (step : Evaluation → S → Option S) (change : C → S → S) (xs ys : List Evaluation) → Each (IsBeside step change ys) xs
    → (s t : S) → run step xs s ≡ Some t
    → (made : List C) × (t ≡ changed change made s) × (run step (xs ++ ys) s ≡ option_map (changed change made) (run step ys s))
