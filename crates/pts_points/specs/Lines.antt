-- Arrays by number, how the index of a loop runs, and the cells of ranges, cells and indices.
use Rattle.std.specs.Prelude.{ℕ, nat_le, if◌then◌else◌, Some, None, ℤ, pos, ◌-ℤ◌}
use Rattle.pts_affine.specs.declared.line.Line.{Line}
use Rattle.pts_tree.specs.declared.sum.Range.{Range}
use Rattle.pts_tree.specs.declared.sum.Cell.{Cell}
use Rattle.pts_tree.specs.declared.loops.Loop as loops
use Rattle.pts_rules.specs.Parts.{Name}
use Rattle.pts_rules.specs.Known.{Scope, array_number, number, natural}
use Rattle.pts_rules.specs.Counts.{loop_positions, step_of}
use Rattle.pts_points.specs.declared.space.IterationSpace.{IterationSpace}

-- the number of an array; 0 of what is no array, of which only a broken rule is asked
abbrev pub array_at : Scope → Name → ℕ
array_at scope name = elim (array_number scope name) [ None ↦ 0 | Some n ↦ n ]

-- the line of a point that touches nothing
abbrev pub no_line : Line
no_line = record { c = pos 0; d = pos 0; n = 0 }

-- n cells from one on, one after the other
abbrev pub cells_from : ℤ → ℕ → Line
cells_from low n = record { c = if nat_le n 1 then pos 0 else pos 1; d = low; n = n }

abbrev pub line_of_range : Scope → Range → Line
line_of_range scope x = cells_from (number scope x.low) (natural (number scope x.high -ℤ number scope x.low))

-- a single cell
abbrev pub line_of_cell : Scope → Cell → Line
line_of_cell scope x = record { c = pos 0; d = number scope x.index; n = 1 }

-- the index of a loop and the numbers that it takes, one at each position
abbrev pub space_of : Scope → loops.Loop → IterationSpace
space_of scope x =
    record { index = Some x.index; first = number scope x.low; step = step_of scope x.step; positions = loop_positions scope x }

-- an assignment of a block has no index, and one position
abbrev pub no_loop : IterationSpace
no_loop = record { index = None; first = pos 0; step = pos 0; positions = 1 }
