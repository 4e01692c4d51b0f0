-- How the statements of a block run, and which trees fit it ([parallel.taskblock]). Tasks run where they are spawned.
use Rattle.std.specs.Prelude.{◌≡◌, ℕ, suc, Bool, true, false, not, ◌||◌, ◌&&◌, Option, Some, None, Ok, Err, List, [], ◌∷◌, slice_get}
use Rattle.std.specs.List.{list_any}
use Rattle.std.specs.Option.{option_map}
use Rattle.pts_types.specs.declared.value.Thrown.{Thrown}
use Rattle.pts_types.specs.declared.value.Thrown.TheVariants.{Code}
use Rattle.pts_types.specs.declared.value.Value.{Value}
use Rattle.pts_lowering.specs.declared.tasks.AssignPoints.{AssignPoints}
use Rattle.pts_lowering.specs.declared.tasks.LoweredBlock.{LoweredBlock}
use Rattle.pts_lowering.specs.declared.tasks.LoweredTask.{LoweredTask, out-LoweredTask}
use Rattle.pts_lowering.specs.declared.tasks.LoweredTask.TheOpen.{LoweredTask-F}
use Rattle.pts_store.specs.Steps.{step_at}
use Rattle.pts_store.specs.Stores.{Store}
use Rattle.pts_blocks.specs.declared.notes.Note.{Note}
use Rattle.pts_blocks.specs.declared.trees.Exception.TheVariants as exceptions
use Rattle.pts_blocks.specs.declared.trees.NodeEnd.{NodeEnd}
use Rattle.pts_blocks.specs.declared.trees.NodeEnd.TheVariants as ends
use Rattle.pts_blocks.specs.declared.trees.Tree.{Tree}
use Rattle.pts_blocks.specs.Changes.{Changes, with_changes}
use Rattle.pts_blocks.specs.declared.notes.Choice.{Choice}
use Rattle.pts_blocks.specs.Meanings.{Meaning}
use Rattle.pts_blocks.specs.Parts.{Ended, Part, AreCaused, block_part, call_part, end_of, followed, note_of, nothing, task_part, tree_of}
use Rattle.pts_blocks.specs.Trees.{end_around, is_failure}

-- ---- statements

-- a statement, opened
abbrev pub Form : Type 0
Form = LoweredTask-F LoweredTask

-- a statement that belongs to bodies of blocks alone
abbrev pub is_of_body : Form → Bool
is_of_body (LoweredTask-F.Run statements) = true
is_of_body LoweredTask-F.Wait = true
is_of_body form = false

-- directly inside a task there is no `run` and no `wait`
abbrev pub IsTaskBody : List LoweredTask → Type 0
IsTaskBody statements = list_any (λ x. is_of_body (out-LoweredTask x)) statements ≡ false

-- ---- points of a run

-- where a node stands between its statements: how many `run` and `wait` it has passed, how many `wait`, whether it runs alone and a task of
-- its block has thrown or is terminated, and the store
pub record Point : Type 0 where
  pub marks : ℕ
  pub phase : ℕ
  pub failed : Bool
  pub store : Store

abbrev pub start : Store → Point
start store = record { marks = 0; phase = 0; failed = false; store = store }

abbrev pub with_store : Point → Store → Point
with_store a store = record { marks = a.marks; phase = a.phase; failed = a.failed; store = store }

abbrev pub behind_wait : Point → Point
behind_wait a = record { marks = suc a.marks; phase = suc a.phase; failed = a.failed; store = a.store }

-- behind a `run` whose task has this end and leaves this store
abbrev pub behind_run : Bool → Point → NodeEnd → Store → Point
behind_run alone a end store = record { marks = suc a.marks; phase = a.phase; failed = alone && is_failure end || a.failed; store = store }

abbrev pub ended : Point → NodeEnd → Ended
ended a end = record { phase = a.phase; end = end }

-- ---- what a worker may do

-- A worker that runs a block alone cancels its body at the first `run` or `wait` behind a task that threw or is terminated, and there
-- alone, and discards no task. Several may cancel and discard or not, as long as there is a cause.
abbrev pub may_cancel : Bool → Bool → Bool
may_cancel alone failed = not alone || failed

abbrev pub may_go : Bool → Bool → Bool
may_go alone failed = not alone || not failed

abbrev pub may_discard : Bool → Bool
may_discard alone = not alone

-- ---- runs

abbrev pub assigned : Meaning → AssignPoints → Value → Changes
assigned m points value = step_at (record { array = (m.target points).array; index = (m.target points).index; value = value })

-- Statements of one node, and a single one, that lead from one point to another. They end the node or go on (None), and leave a part.
mutual
  pub data Runs (m : Meaning) (alone : Bool) : List LoweredTask → Point → Option Ended → Part → Point → Type 0 where
    done : {a : Point} → Runs m alone [] a None nothing a
    stops : {x : LoweredTask} {xs : List LoweredTask} {a b : Point} {e : Ended} {p : Part}
        → Does m alone (out-LoweredTask x) a (Some e) p b → Runs m alone (x ∷ xs) a (Some e) p b
    goes : {x : LoweredTask} {xs : List LoweredTask} {a b c : Point} {e : Option Ended} {p q : Part}
        → Does m alone (out-LoweredTask x) a None p b → Runs m alone xs b e q c → Runs m alone (x ∷ xs) a e (followed p q) c

  pub data Does (m : Meaning) (alone : Bool) : Form → Point → Option Ended → Part → Point → Type 0 where
    cancel_run : {ys : List LoweredTask} {a : Point} → may_cancel alone a.failed ≡ true
        → Does m alone (LoweredTask-F.Run ys) a (Some (ended a (ends.Cancelled a.marks))) nothing a
    cancel_wait : {a : Point} → may_cancel alone a.failed ≡ true
        → Does m alone LoweredTask-F.Wait a (Some (ended a (ends.Cancelled a.marks))) nothing a
    wait : {a : Point} → may_go alone a.failed ≡ true → Does m alone LoweredTask-F.Wait a None nothing (behind_wait a)
    discard : {ys : List LoweredTask} {a : Point} → may_discard alone ≡ true
        → Does m alone (LoweredTask-F.Run ys) a None (task_part a.phase ends.Discarded nothing) (behind_run alone a ends.Discarded a.store)
    run : {ys : List LoweredTask} {a b : Point} {e : Option Ended} {p : Part}
        → may_go alone a.failed ≡ true → IsTaskBody ys → Runs m alone ys (start a.store) e p b
        → Does m alone (LoweredTask-F.Run ys) a None (task_part a.phase (end_of e) p) (behind_run alone a (end_of e) b.store)
    throw : {code : ℕ} {a : Point} → Does m alone (LoweredTask-F.Throw code) a (Some (ended a (ends.Threw (exceptions.One (Code code))))) nothing a
    assign : {points : AssignPoints} {a : Point} {value : Value} → m.value points a.store ≡ Ok value
        → Does m alone (LoweredTask-F.Assign points) a None
        (record { tasks = []; inner = []; notes = []; changes = assigned m points value }) (with_store a (with_changes (assigned m points value) a.store))
    assign_throws : {points : AssignPoints} {a : Point} {fault : Thrown} → m.value points a.store ≡ Err fault
        → Does m alone (LoweredTask-F.Assign points) a (Some (ended a (ends.Threw (exceptions.One fault)))) nothing a
    call : {n : ℕ} {a : Point} {choice : Choice} {changes : Changes} → m.Gives n a.store choice changes
        → Does m alone (LoweredTask-F.Call n) a None (call_part (note_of n choice false) changes) (with_store a (with_changes changes a.store))
    call_terminates : {n : ℕ} {a : Point} {choice : Choice} → m.Terminates n a.store choice
        → Does m alone (LoweredTask-F.Call n) a (Some (ended a ends.Terminated)) (call_part (note_of n choice true) nothing.changes) a
    block : {n : ℕ} {inner : LoweredBlock} {a b : Point} {e : Option Ended} {p : Part}
        → slice_get m.blocks n ≡ Some inner → Runs m alone inner.body (start a.store) e p b → AreCaused p.tasks e
        → Does m alone (LoweredTask-F.Block n) a (option_map (ended a) (end_around (tree_of e p))) (block_part (tree_of e p) p) (with_store a b.store)

-- The body of a block and its tasks can run from the store `before` with the ends that the tree gives, with these notes of their calls in the
-- order of the run, and leave the store `after`.
pub record Fits (m : Meaning) (alone : Bool) (block : LoweredBlock) (before : Store) (tree : Tree) (notes : List Note) (after : Store) : Type 0 where
  pub end : Option Ended
  pub part : Part
  pub to : Point
  pub runs : Runs m alone block.body (start before) end part to
  pub caused : AreCaused part.tasks end
  pub tree_is : tree ≡ tree_of end part
  pub notes_are : notes ≡ part.notes
  pub after_is : after ≡ to.store
