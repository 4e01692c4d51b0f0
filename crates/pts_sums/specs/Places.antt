-- Places of a scan: what a stretch of them holds, and what it is to write them.
use Rattle.std.specs.Prelude.{⊤, ℕ, Bool, true, false, Option, Some, None, List, [], ◌∷◌, ◌++◌, length, map, take}
use Rattle.std.specs.List.{range_with_len}
use Rattle.std.specs.Option.{option_map}
use Rattle.pts_types.specs.declared.value.Value.{Value}
use Rattle.pts_store.specs.Steps.{Step, AreOf}
use Rattle.pts_store.specs.Writes.{Writes}
use Rattle.pts_groupings.specs.Chunks.{chunk}
use Rattle.pts_types.specs.declared.operation.Policy.TheVariants.{Seq}
use Rattle.pts_groupings.specs.Scans.{Scan, Inclusive, Exclusive, place}
use Rattle.pts_groupings.specs.Sums.{folded}
use Rattle.pts_sums.specs.Folds.{with_item, with_items, outcome_in}
use Rattle.pts_eval.specs.Sums.{steps_from}

-- the outcomes of a fold, behind each of these items more
abbrev pub outcomes_after : {V : Type 0} → (V → V → Option V) → Option (Option V) → List (Option V) → List (Option V)
outcomes_after op so_far [] = []
outcomes_after op so_far (item ∷ rest) = outcome_in (with_item op so_far item) ∷ outcomes_after op (with_item op so_far item) rest

-- the places of these items, where a fold has come so far before them
abbrev pub places_after : {V : Type 0} → Scan → (V → V → Option V) → Option (Option V) → List (Option V) → List (Option V)
places_after Inclusive op so_far items = outcomes_after op so_far items
places_after Exclusive op so_far items = take (length items) (outcome_in so_far ∷ outcomes_after op so_far items)

-- how far a fold has come before a chunk: init, and the folds of the chunks before it
abbrev pub start_of : {V : Type 0} → (V → V → Option V) → ℕ → Option V → List (Option V) → ℕ → Option (Option V)
start_of op size init items c = with_items op (option_map Some init) (map (λ earlier. folded op (chunk size items earlier)) (range_with_len 0 c))

-- these steps more
abbrev pub PutsSteps : Writes → Writes → List Step → Type 0
PutsSteps old new steps = (earlier : List Step) → AreOf earlier old → AreOf (earlier ++ steps) new

-- values for cells from one on are written, all of them, or not all since one of them is a throw
abbrev pub Puts : Bool → Option (List Value) → ℕ → ℕ → Writes → Writes → Type 0
Puts true (Some values) array index old new = PutsSteps old new (steps_from array index values)
Puts false None array index old new = ⊤
Puts all values array index old new = ⊥

-- these places are what is written to cells from one on, or one of them is a throw
abbrev pub AreWritten : Option (List Value) → ℕ → ℕ → Option Writes → Type 0
AreWritten (Some values) array index (Some writes) = AreOf (steps_from array index values) writes
AreWritten None array index None = ⊤
AreWritten values array index writes = ⊥

-- the next place of a scan, where a fold has come so far before its own item
abbrev pub next_place : {V : Type 0} → Scan → (V → V → Option V) → Option (Option V) → Option V → Option V
next_place Inclusive op so_far item = outcome_in (with_item op so_far item)
next_place Exclusive op so_far item = outcome_in so_far

-- the places in index order, by the elements that have been read
abbrev pub turn_place : Scan → (Value → Value → Option Value) → (Value → Option Value) → Option Value → List Value → ℕ → Option Value
turn_place scan op item init elements p = place Seq scan 1 op init (map item elements) p
