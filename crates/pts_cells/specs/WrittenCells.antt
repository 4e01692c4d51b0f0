-- What a call has written so far: for each cell of the store that it began with a value, or nothing.
use Rattle.std.specs.Prelude.{◌≡◌, ℕ, Option, Some, None, List, [], length, map, get_or, set, slice_get}
use Rattle.std.specs.Option.{option_map}
use Rattle.pts_types.specs.declared.value.Value.{Value}
use Rattle.pts_store.specs.Stores.{Store, cells_in, shown}
use Rattle.pts_store.specs.Writes.{Writes, written}

pub record Cell : Type 0 where
  pub array : ℕ
  pub index : ℕ

abbrev pub WrittenCells : Type 0
WrittenCells = List (List (Option Value))

abbrev pub no_value : Value → Option Value
no_value value = None

-- nothing is written
abbrev pub none_written : Store → WrittenCells
none_written store = map (map no_value) store

-- these are written cells of the store
pub record AreCellsOf (store : Store) (cells : WrittenCells) : Type 0 where
  pub rows : (array : ℕ) → length (get_or cells array []) ≡ length (cells_in store array)

-- what is written to a cell
abbrev pub written_at : WrittenCells → Cell → Option Value
written_at cells c = get_or (get_or cells c.array []) c.index None

-- a value is written to a cell, in place of an earlier one
abbrev pub with_value : WrittenCells → Cell → Value → WrittenCells
with_value cells c value = set cells c.array (set (get_or cells c.array []) c.index (Some value))

-- what a cell shows: the value that is written, or else the one that the store has; nothing where there is no such cell
abbrev pub seen : Store → WrittenCells → Cell → Option Value
seen store cells c = option_map (shown (written_at cells c)) (slice_get (cells_in store c.array) c.index)

-- the writes have these values, and no others
pub record AreWritten (cells : WrittenCells) (writes : Writes) : Type 0 where
  pub cell : (array index : ℕ) → written writes array index ≡ written_at cells (record { array = array; index = index })
