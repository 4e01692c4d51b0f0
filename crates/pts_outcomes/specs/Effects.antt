-- What an evaluation does, told by the notes of its position and by what the call has written so far.
use Rattle.std.specs.Prelude.{ℕ, Bool, true, false, not, if◌then◌else◌, nat_lt, Option, Some, None, Ok, Err, List, length, ℤ, pos, negsuc}
use Rattle.std.specs.List.{list_all}
use Rattle.std.specs.Prelude.{Result}
use Rattle.pts_types.specs.declared.value.Thrown.{Thrown}
use Rattle.pts_types.specs.declared.value.Thrown.TheVariants.{Overflow}
use Rattle.pts_types.specs.declared.value.Value.{Value}
use Rattle.pts_types.specs.declared.value.Value.TheVariants as values
use Rattle.pts_affine.specs.Lines.{cell}
use Rattle.pts_code.specs.Outcomes.{Outcome, and_then, operate}
use Rattle.pts_code.specs.Values.{note}
use Rattle.pts_points.specs.declared.point.Branch.{Branch}
use Rattle.pts_store.specs.Stores.{Store, cells_in}
use Rattle.pts_orders.specs.Effects as effects
use Rattle.pts_outcomes.specs.Acts.{Notes, Index, Along, Computed, Place, Act, Reads, Writes, Updates, Computes, Point}
use Rattle.pts_cells.specs.WrittenCells.{Cell, WrittenCells, seen}

-- an effect notes an outcome, writes a value to a cell, throws, or is none
abbrev pub Effect : Type 0
Effect = effects.Effect Cell Value Outcome

-- ---- places

-- a value as an index
abbrev pub index_of : Value → ℤ
index_of (values.I64 z) = z
index_of (values.U64 n) = pos n
index_of (values.Bool b) = pos 0

-- the cell of an array with this index; where there is none, a fault stands for it
abbrev pub cell_with : Store → ℕ → ℤ → Result Cell Thrown
cell_with store array (pos n) = if nat_lt n (length (cells_in store array)) then Ok (record { array = array; index = n }) else Err Overflow
cell_with store array (negsuc n) = Err Overflow

-- the index at a position; a line has so many
abbrev pub index_at : Index → ℕ → Notes → Result ℤ Thrown
index_at (Along line) p notes = if nat_lt p line.n then Ok (cell line p) else Err Overflow
index_at (Computed x) p notes = and_then (x p notes) (λ value. Ok (index_of value))

abbrev pub place_at : Store → Place → ℕ → Notes → Result Cell Thrown
place_at store place p notes = and_then (index_at place.index p notes) (cell_with store place.array)

-- ---- acts

-- what a read of a cell gives
abbrev pub given : Option Value → Outcome
given None = Err Overflow
given (Some value) = Ok value

-- the write of a value to a cell, or a throw
abbrev pub puts : Result (Cell × Value) Thrown → Effect
puts (Ok x) = effects.Puts x.0 x.1
puts (Err thrown) = effects.Throws

-- the note of a value, or a throw
abbrev pub notes_value : Outcome → Effect
notes_value (Ok value) = effects.Notes (Ok value)
notes_value (Err thrown) = effects.Throws

abbrev pub beside : Cell → Outcome → Result (Cell × Value) Thrown
beside c outcome = and_then outcome (λ value. Ok (c, value))

-- What is done at a position. A fault that a read meets is noted, and throws where its value is taken. An update takes what its cell
-- holds, and then its operand.
abbrev pub act_effect : Store → Act → ℕ → Notes → WrittenCells → Effect
act_effect store (Reads place) p notes cells = effects.Notes (and_then (place_at store place p notes) (λ c. given (seen store cells c)))
act_effect store (Writes place x) p notes cells = puts (and_then (place_at store place p notes) (λ c. beside c (x p notes)))
act_effect store (Updates place op x) p notes cells =
    puts (and_then (place_at store place p notes) (λ c. beside c (operate (given (seen store cells c)) (op, x p notes))))
act_effect store (Computes x) p notes cells = notes_value (x p notes)

-- ---- branches

-- what a test came to
abbrev pub is_side : Bool → Outcome → Bool
is_side true (Ok (values.Bool truth)) = truth
is_side false (Ok (values.Bool truth)) = not truth
is_side taken outcome = false

-- the test of a branch has come to its side
abbrev pub is_taken : Notes → Branch → Bool
is_taken notes branch = is_side branch.taken (note notes branch.test)

-- all the tests that a point stands under have
abbrev pub is_reached : Notes → List Branch → Bool
is_reached notes branches = list_all (is_taken notes) branches

-- what is done at a point, which is nothing where its branch is not taken
abbrev pub point_effect : Store → Option Point → ℕ → Notes → WrittenCells → Effect
point_effect store None p notes cells = effects.Skips
point_effect store (Some point) p notes cells = if is_reached notes point.branches then act_effect store point.act p notes cells else effects.Skips
