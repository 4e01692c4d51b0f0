-- Writes: at each cell of each array a value, or nothing.
use Rattle.std.specs.Prelude.{◌≡◌, ℕ, ◌/◌, ◌%◌, ◌==◌, ◌&&◌, if◌then◌else◌, Option, None, Some, List, [], get_or}
use Rattle.pts_types.specs.declared.value.Value.{Value}
use Rattle.pts_types.specs.declared.value.Value.TheVariants as values
use Rattle.pts_store.specs.declared.slot.Slot.{Slot}
use Rattle.pts_store.specs.declared.slot.Slot.TheVariants as slots

-- ---- the lists that writes lie in

-- the value in a slot
abbrev pub held : Slot → Option Value
held (slots.I64 z) = Some (values.I64 z)
held (slots.U64 n) = Some (values.U64 n)
held (slots.Bool b) = Some (values.Bool b)
held slots.Nothing = None

-- a page has the slots of 128 cells, a block 64 pages, a row the blocks of one array, a band 64 rows
abbrev pub Page : Type 0
Page = List Slot

abbrev pub Block : Type 0
Block = List Page

abbrev pub Row : Type 0
Row = List Block

abbrev pub Band : Type 0
Band = List Row

abbrev pub Writes : Type 0
Writes = List Band

-- the value at a place of each; nothing lies past an end
unfoldable pub in_page : Page → ℕ → Option Value
in_page page at = held (get_or page at slots.Nothing)

unfoldable pub in_block : Block → ℕ → Option Value
in_block block at = in_page (get_or block (at / 128) []) (at % 128)

unfoldable pub in_row : Row → ℕ → Option Value
in_row row index = in_block (get_or row (index / 8192) []) (index % 8192)

unfoldable pub in_band : Band → ℕ → ℕ → Option Value
in_band band at index = in_row (get_or band at []) index

-- ---- what is written

-- the value that writes have for a cell
unfoldable pub written : Writes → ℕ → ℕ → Option Value
written writes array index = in_band (get_or writes (array / 64) []) (array % 64) index

-- a later value in place of an earlier one, where there is one
abbrev pub over : Option Value → Option Value → Option Value
over earlier None = earlier
over earlier (Some value) = Some value

-- ---- changes of writes

-- every cell is as before
pub record SameWrites (old new : Writes) : Type 0 where
  pub cell : (array index : ℕ) → written new array index ≡ written old array index

-- one cell has this value, and every other is as before
pub record PutsCell (old new : Writes) (at place : ℕ) (value : Value) : Type 0 where
  pub cell : (array index : ℕ) → written new array index ≡ (if array == at && index == place then Some value else written old array index)

-- every cell has the later value, where there is one
pub record Merges (old later new : Writes) : Type 0 where
  pub cell : (array index : ℕ) → written new array index ≡ over (written old array index) (written later array index)
