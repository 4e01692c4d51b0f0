-- Which cells the statements of a block touch, whether or not they are run.
use Rattle.std.specs.Prelude.{◌≡◌, ℕ, Bool, true, false, Some, List, ◌∷◌, slice_get}
use Rattle.pts_lowering.specs.declared.tasks.AssignPoints.{AssignPoints}
use Rattle.pts_lowering.specs.declared.tasks.LoweredBlock.{LoweredBlock}
use Rattle.pts_lowering.specs.declared.tasks.LoweredTask.{LoweredTask, out-LoweredTask}
use Rattle.pts_lowering.specs.declared.tasks.LoweredTask.TheOpen.{LoweredTask-F}
use Rattle.pts_store.specs.Stores.{Store}
use Rattle.pts_blocks.specs.Changes.{AgreeIn, Cells, Changes, IsInside}
use Rattle.pts_blocks.specs.declared.notes.Choice.{Choice}
use Rattle.pts_blocks.specs.Meanings.{Meaning}
use Rattle.pts_blocks.specs.Runs.{Form}

-- the cells that an assignment reads for its value, and those that a call reads and writes
pub record Footprint : Type 1 where
  pub reads : AssignPoints → Cells
  pub call_reads : ℕ → Cells
  pub call_writes : ℕ → Cells

-- What an assignment or a call gives is told by the cells that it reads, on stores of one shape, and a call changes no cell but those that
-- it writes.
pub record IsLocal (m : Meaning) (f : Footprint) : Type 0 where
  pub value : (points : AssignPoints) (s t : Store) → AgreeIn (f.reads points) s t → m.value points t ≡ m.value points s
  pub gives : (n : ℕ) (s t : Store) (choice : Choice) (changes : Changes) → AgreeIn (f.call_reads n) s t → m.Gives n s choice changes → m.Gives n t choice changes
  pub terminates : (n : ℕ) (s t : Store) (choice : Choice) → AgreeIn (f.call_reads n) s t → m.Terminates n s choice → m.Terminates n t choice
  pub changes : (n : ℕ) (s : Store) (choice : Choice) (changes : Changes) → m.Gives n s choice changes → IsInside (f.call_writes n) changes

-- The cells that statements read (false) or write (true), those of tasks and of inner blocks among them.
mutual
  pub data Touches (m : Meaning) (f : Footprint) (writes : Bool) : List LoweredTask → ℕ → ℕ → Type 0 where
    here : {x : LoweredTask} {xs : List LoweredTask} {array index : ℕ} → TouchesAt m f writes (out-LoweredTask x) array index → Touches m f writes (x ∷ xs) array index
    later : {x : LoweredTask} {xs : List LoweredTask} {array index : ℕ} → Touches m f writes xs array index → Touches m f writes (x ∷ xs) array index

  pub data TouchesAt (m : Meaning) (f : Footprint) (writes : Bool) : Form → ℕ → ℕ → Type 0 where
    in_run : {ys : List LoweredTask} {array index : ℕ} → Touches m f writes ys array index → TouchesAt m f writes (LoweredTask-F.Run ys) array index
    in_block : {n : ℕ} {inner : LoweredBlock} {array index : ℕ} → slice_get m.blocks n ≡ Some inner → Touches m f writes inner.body array index
        → TouchesAt m f writes (LoweredTask-F.Block n) array index
    reads : {points : AssignPoints} {array index : ℕ} → writes ≡ false → f.reads points array index → TouchesAt m f writes (LoweredTask-F.Assign points) array index
    assigns : {points : AssignPoints} → writes ≡ true → TouchesAt m f writes (LoweredTask-F.Assign points) (m.target points).array (m.target points).index
    call_reads : {n : ℕ} {array index : ℕ} → writes ≡ false → f.call_reads n array index → TouchesAt m f writes (LoweredTask-F.Call n) array index
    call_writes : {n : ℕ} {array index : ℕ} → writes ≡ true → f.call_writes n array index → TouchesAt m f writes (LoweredTask-F.Call n) array index
