-- Parts of a task block with no order between them ([parallel.taskblock]).
use Rattle.std.specs.Prelude.{◌≡◌, ℕ, ◌≤◌, Bool, true, false, if◌then◌else◌, Some, List, [], ◌∷◌, ◌++◌, slice_get}
use Rattle.std.specs.List.{Contains}
use Rattle.pts_points.specs.declared.point.CallInfo.{CallInfo}
use Rattle.pts_points.specs.Standings.{HasPoint}
use Rattle.pts_lowering.specs.declared.tasks.AssignPoints.{AssignPoints}
use Rattle.pts_lowering.specs.declared.tasks.LoweredBlock.{LoweredBlock}
use Rattle.pts_lowering.specs.declared.tasks.LoweredTask.{LoweredTask}
use Rattle.pts_lowering.specs.declared.tasks.LoweredTask.TheOpen.{LoweredTask-F}
use Rattle.pts_lowering.specs.declared.tasks.LoweredTask.TheViews.{out-LoweredTask}
use Rattle.pts_program.specs.declared.lists.Lists.{Lists}
use Rattle.pts_layout.specs.Layout.{IsWithin}

-- point k of the item is one of this statement of a block
pub data IsPointOfTask (lists : Lists) (k : ℕ) : LoweredTask → Type 0 where
  assigned : {x : LoweredTask} (at : AssignPoints) → out-LoweredTask x ≡ LoweredTask-F.Assign at → at.first ≤ k → k ≤ at.write → IsPointOfTask lists k x
  in_call : {x : LoweredTask} (n : ℕ) (call : CallInfo) → out-LoweredTask x ≡ LoweredTask-F.Call n → slice_get lists.calls n ≡ Some call → HasPoint call k → IsPointOfTask lists k x
  in_block : {x : LoweredTask} (n : ℕ) (block : LoweredBlock) → out-LoweredTask x ≡ LoweredTask-F.Block n → slice_get lists.lowered_blocks n ≡ Some block → IsWithin block k → IsPointOfTask lists k x
  in_run : {x : LoweredTask} (body : List LoweredTask) (y : LoweredTask) → out-LoweredTask x ≡ LoweredTask-F.Run body → Contains body y → IsPointOfTask lists k y → IsPointOfTask lists k x

-- it is one of one of these statements
abbrev pub IsPointOfTasks : Lists → List LoweredTask → ℕ → Type 0
IsPointOfTasks lists tasks k = (x : LoweredTask) × Contains tasks x × IsPointOfTask lists k x

abbrev pub wait_form : LoweredTask-F LoweredTask → Bool
wait_form LoweredTask-F.Wait = true
wait_form _ = false

abbrev pub is_wait : LoweredTask → Bool
is_wait x = wait_form (out-LoweredTask x)

-- the rest of a phase: the statements before the first `wait`
abbrev pub phase : List LoweredTask → List LoweredTask
phase [] = []
phase (x ∷ xs) = if is_wait x then [] else x ∷ phase xs

-- In a body of the item, k is a point of what is run and m one of a statement behind the `run` in the same phase.
pub record AreConcurrent (lists : Lists) (item k m : ℕ) : Type 0 where
  pub block : LoweredBlock
  pub there : Contains lists.lowered_blocks block
  pub of_item : block.item ≡ item
  pub front : List LoweredTask
  pub rest : List LoweredTask
  pub task : LoweredTask
  pub tasks : List LoweredTask
  pub stands : block.body ≡ front ++ task ∷ rest
  pub runs : out-LoweredTask task ≡ LoweredTask-F.Run tasks
  pub first : IsPointOfTasks lists tasks k
  pub second : IsPointOfTasks lists (phase rest) m
