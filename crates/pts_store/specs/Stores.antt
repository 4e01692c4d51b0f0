-- Stores: what the cells of all arrays hold, and what they hold with writes over them.
use Rattle.std.specs.Prelude.{ℕ, suc, ◌<◌, Option, None, Some, List, [], ◌∷◌, length, get_or, slice_set}
use Rattle.pts_types.specs.declared.value.Value.{Value}
use Rattle.pts_store.specs.Writes.{Writes, written}

-- the cells of each array, by its number
abbrev pub Store : Type 0
Store = List (List Value)

-- the cells of an array; none where there is no such array
abbrev pub cells_in : Store → ℕ → List Value
cells_in store array = get_or store array []

-- the array has a cell at this index
abbrev pub IsCell : Store → ℕ → ℕ → Type 0
IsCell store array index = index < length (cells_in store array)

-- the store with this value in one cell; the same store where there is no such cell
abbrev pub put_cell : Store → ℕ → ℕ → Value → Store
put_cell store array index value = slice_set store array (slice_set (cells_in store array) index value)

-- what a cell shows: the value that is written, or else the one that it holds
abbrev pub shown : Option Value → Value → Value
shown None value = value
shown (Some later) value = later

-- cells with the values that are written for them, by their indices
unfoldable pub cells_with : (ℕ → Option Value) → List Value → List Value
cells_with writes [] = []
cells_with writes (value ∷ rest) = shown (writes 0) value ∷ cells_with (λ index. writes (suc index)) rest

-- arrays with the values that are written for their cells, by their numbers
unfoldable pub arrays_with : (ℕ → ℕ → Option Value) → Store → Store
arrays_with writes [] = []
arrays_with writes (cells ∷ rest) = cells_with (writes 0) cells ∷ arrays_with (λ array. writes (suc array)) rest

-- the store with writes over it; what is written to no cell is passed over
unfoldable pub accepted : Store → Writes → Store
accepted store writes = arrays_with (written writes) store
