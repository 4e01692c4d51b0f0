-- What stands in the blocks of an item and is no part of their shape: what their assignments and calls give.
use Rattle.std.specs.Prelude.{◌≡◌, ℕ, Result, List}
use Rattle.pts_types.specs.declared.value.Thrown.{Thrown}
use Rattle.pts_types.specs.declared.value.Value.{Value}
use Rattle.pts_lowering.specs.declared.forms.CellIndex.{CellIndex}
use Rattle.pts_lowering.specs.declared.tasks.AssignPoints.{AssignPoints}
use Rattle.pts_lowering.specs.declared.tasks.LoweredBlock.{LoweredBlock}
use Rattle.pts_store.specs.Stores.{Store}
use Rattle.pts_blocks.specs.declared.notes.Choice.{Choice}
use Rattle.pts_blocks.specs.Changes.{Changes}

-- All blocks of the script by their numbers. An assignment has a cell and, in a store, a value or a throw. A call, by its number, may
-- make changes in a store, or it may end the run there.
pub record Meaning : Type 1 where
  pub blocks : List LoweredBlock
  pub target : AssignPoints → CellIndex
  pub value : AssignPoints → Store → Result Value Thrown
  pub Gives : ℕ → Store → Choice → Changes → Type 0
  pub Terminates : ℕ → Store → Choice → Type 0

-- each call has one answer in a store, as with one worker
pub record HasOneAnswer (m : Meaning) : Type 0 where
  pub given : (n : ℕ) (s : Store) (c d : Choice) (v w : Changes) → m.Gives n s c v → m.Gives n s d w → (c ≡ d) × (v ≡ w)
  pub terminated : (n : ℕ) (s : Store) (c d : Choice) → m.Terminates n s c → m.Terminates n s d → c ≡ d
  pub either : (n : ℕ) (s : Store) (c d : Choice) (v : Changes) → m.Gives n s c v → m.Terminates n s d → ⊥
