-- Changes of a store: for each cell of each array a value, or nothing.
use Rattle.std.specs.Prelude.{◌≡◌, ℕ, Option, Some, None, slice_get}
use Rattle.pts_types.specs.declared.value.Value.{Value}
use Rattle.pts_store.specs.Laws.{SameShape}
use Rattle.pts_store.specs.Stores.{Store, arrays_with, cells_in}
use Rattle.pts_store.specs.Writes.{over}

abbrev pub Changes : Type 0
Changes = ℕ → ℕ → Option Value

abbrev pub no_changes : Changes
no_changes array index = None

-- changes and then later ones
abbrev pub changed_twice : Changes → Changes → Changes
changed_twice changes later array index = over (changes array index) (later array index)

-- the store with changes made in it
abbrev pub with_changes : Changes → Store → Store
with_changes = arrays_with

-- ---- sets of cells, by array and index

abbrev pub Cells : Type 1
Cells = ℕ → ℕ → Type 0

-- no cell is in both
abbrev pub AreApart : Cells → Cells → Type 0
AreApart C D = (array index : ℕ) → C array index → D array index → ⊥

-- what is changed is in the set
abbrev pub IsInside : Cells → Changes → Type 0
IsInside C changes = (array index : ℕ) (value : Value) → changes array index ≡ Some value → C array index

-- two stores of one shape hold the same in these cells
pub record AgreeIn (C : Cells) (one other : Store) : Type 0 where
  pub shape : SameShape one other
  pub cell : (array index : ℕ) → C array index → slice_get (cells_in other array) index ≡ slice_get (cells_in one array) index
