-- Which cells an evaluation may touch, whether or not its branch is taken.
use Rattle.std.specs.Prelude.{◌≡◌, ℕ, ◌<◌, Bool, true, false, Option, Some, None, length, pos, slice_get}
use Rattle.pts_affine.specs.Lines.{cell}
use Rattle.pts_store.specs.Stores.{Store, cells_in}
use Rattle.pts_orders.specs.Evaluations.{Evaluation}
use Rattle.pts_outcomes.specs.Acts.{Index, Along, Computed, Place, Act, Reads, Writes, Updates, Computes, Point}
use Rattle.pts_outcomes.specs.Calls.{Call}
use Rattle.pts_cells.specs.WrittenCells.{Cell}

-- an index that is computed may be any
abbrev pub MayBe : Index → ℕ → ℕ → Type 0
MayBe (Along line) p n = (p < line.n) × (cell line p ≡ pos n)
MayBe (Computed x) p n = Unit {0}

-- a cell of the array of a place, with an index that it may have at a position
pub record TouchesPlace (store : Store) (place : Place) (p : ℕ) (c : Cell) : Type 0 where
  pub array : c.array ≡ place.array
  pub exists : c.index < length (cells_in store place.array)
  pub index : MayBe place.index p c.index

abbrev pub TouchesAct : Store → Act → ℕ → Cell → Type 0
TouchesAct store (Reads place) p c = TouchesPlace store place p c
TouchesAct store (Writes place x) p c = TouchesPlace store place p c
TouchesAct store (Updates place op x) p c = TouchesPlace store place p c
TouchesAct store (Computes x) p c = ⊥

abbrev pub TouchesPoint : Store → Option Point → ℕ → Cell → Type 0
TouchesPoint store None p c = ⊥
TouchesPoint store (Some point) p c = TouchesAct store point.act p c

-- an evaluation of a call may touch the cell
abbrev pub Touches : Store → Call → Evaluation → Cell → Type 0
Touches store call x c = TouchesPoint store (slice_get call.points x.point) x.position c

-- an update reads and writes
abbrev pub is_writing : Act → Bool
is_writing (Reads place) = false
is_writing (Writes place x) = true
is_writing (Updates place op x) = true
is_writing (Computes x) = false

abbrev pub is_writing_point : Option Point → Bool
is_writing_point None = false
is_writing_point (Some point) = is_writing point.act

abbrev pub writes : Call → Evaluation → Bool
writes call x = is_writing_point (slice_get call.points x.point)
