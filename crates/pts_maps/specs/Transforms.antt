-- A transform as it runs over an overlay, position by position.
use Rattle.std.specs.Prelude.{◌≡◌, ℕ, Bool, true, false, Option, Some, None, List}
use Rattle.pts_code.specs.declared.function.FunctionInfo.{FunctionInfo}
use Rattle.pts_lowering.specs.declared.forms.Transform.{Transform}
use Rattle.pts_store.specs.Overlays.{Layer}
use Rattle.pts_store.specs.Stores.{Store}
use Rattle.pts_store.specs.Writes.{Writes}
use Rattle.pts_cells.specs.WrittenCells.{AreWritten, WrittenCells}
use Rattle.pts_outcomes.specs.Calls.{in_index_order, written_along}
use Rattle.pts_outcomes.specs.MapCalls.{transform_call}
use Rattle.pts_outcomes.specs.Turns.{HasRun}

-- what the transform writes in index order
abbrev pub in_turn : List FunctionInfo → Store → Transform → Option WrittenCells
in_turn functions store call = written_along store (transform_call functions store call) (in_index_order (transform_call functions store call))

-- the positions before this one have run
abbrev pub IsAt : List FunctionInfo → Store → Transform → ℕ → Layer → Type 0
IsAt functions store call p layer = HasRun store (transform_call functions store call) p layer (in_turn functions store call)

-- they have run, or the function throws at one of them
abbrev pub Goes : List FunctionInfo → Store → Transform → ℕ → Bool → Layer → Type 0
Goes functions store call p true layer = IsAt functions store call p layer
Goes functions store call p false layer = in_turn functions store call ≡ None

-- these are all writes, or nothing since the function throws
abbrev pub AreAll : Option WrittenCells → Option Writes → Type 0
AreAll (Some cells) (Some writes) = AreWritten cells writes
AreAll None None = Unit {0}
AreAll cells writes = ⊥
