-- What the arrays of a program hold, and the cells of ranges.
use Rattle.std.specs.Prelude.{List, map, slice_range}
use Rattle.pts_types.specs.declared.value.Value.{Value}
use Rattle.pts_lowering.specs.declared.forms.CellRange.{CellRange}
use Rattle.pts_program.specs.declared.info.ArrayInfo.{ArrayInfo}
use Rattle.pts_program.specs.declared.lists.Lists.{Lists}
use Rattle.pts_store.specs.Stores.{Store, cells_in}

abbrev pub start_cells : List ArrayInfo → Store
start_cells arrays = map (λ a. a.cells) arrays

-- what the arrays hold before the first statement
abbrev pub start_store : Lists → Store
start_store lists = start_cells lists.arrays

-- the cells of a range
abbrev pub range_in : Store → CellRange → List Value
range_in store range = slice_range (cells_in store range.array) range.low range.high
