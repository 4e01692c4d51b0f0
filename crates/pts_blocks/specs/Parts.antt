-- What statements of a block leave.
use Rattle.std.specs.Prelude.{◌≡◌, ◌⊎◌, ℕ, ◌≤◌, Bool, true, Option, Some, None, IfSome, IsSomeAnd, List, [], ◌∷◌, ◌++◌, map}
use Rattle.pts_blocks.specs.declared.notes.Note.{Note}
use Rattle.pts_blocks.specs.declared.trees.Node.{Node, roll-Node}
use Rattle.pts_blocks.specs.declared.trees.NodeEnd.{NodeEnd}
use Rattle.pts_blocks.specs.declared.trees.NodeEnd.TheVariants as ends
use Rattle.pts_blocks.specs.declared.trees.Tree.{Tree, roll-Tree}
use Rattle.pts_blocks.specs.Changes.{Changes, changed_twice, no_changes}
use Rattle.pts_blocks.specs.declared.notes.Choice.{Choice}
use Rattle.pts_blocks.specs.Trees.{is_cancelled, is_discarded, is_failure}

-- the end of a node before its last statement, and in which phase that was
pub record Ended : Type 0 where
  pub phase : ℕ
  pub end : NodeEnd

-- a task: the phase that spawned it, its end, and the trees of the blocks that it began
pub record Task : Type 0 where
  pub phase : ℕ
  pub end : NodeEnd
  pub inner : List Tree

-- The tasks that statements spawned, the trees of the blocks that their node itself began, the notes of the calls, and the changes of the
-- store; those of tasks and of inner blocks are among the last two. Each is in the order of a run in which tasks run where they are spawned.
pub record Part : Type 0 where
  pub tasks : List Task
  pub inner : List Tree
  pub notes : List Note
  pub changes : Changes

-- ---- parts

abbrev pub nothing : Part
nothing = record { tasks = []; inner = []; notes = []; changes = no_changes }

-- one part and then another
abbrev pub followed : Part → Part → Part
followed p q =
    record { tasks = p.tasks ++ q.tasks; inner = p.inner ++ q.inner; notes = p.notes ++ q.notes; changes = changed_twice p.changes q.changes }

abbrev pub note_of : ℕ → Choice → Bool → Note
note_of call choice terminated = record { call = call; grouping = choice.grouping; index = choice.index; terminated = terminated }

-- of a call, with its note and its changes
abbrev pub call_part : Note → Changes → Part
call_part note changes = record { tasks = []; inner = []; notes = note ∷ []; changes = changes }

-- of a task with this end, that itself leaves this part
abbrev pub task_part : ℕ → NodeEnd → Part → Part
task_part phase end p = record { tasks = record { phase = phase; end = end; inner = p.inner } ∷ []; inner = []; notes = p.notes; changes = p.changes }

-- of a block with this tree, whose nodes leave this part
abbrev pub block_part : Tree → Part → Part
block_part tree p = record { tasks = []; inner = tree ∷ []; notes = p.notes; changes = p.changes }

-- ---- nodes and trees

-- a node that comes to its last statement is finished
abbrev pub end_of : Option Ended → NodeEnd
end_of None = ends.Finished
end_of (Some ended) = ended.end

abbrev pub node_of : Task → Node
node_of task = roll-Node (record { end = task.end; inner = task.inner })

-- the tree of a block whose body has this end and leaves this part
abbrev pub tree_of : Option Ended → Part → Tree
tree_of end p = roll-Tree (record { body = roll-Node (record { end = end_of end; inner = p.inner }); tasks = map node_of p.tasks })

-- ---- causes

-- one of the tasks is such
pub data OneOf (P : Task → Type 0) : List Task → Type 0 where
  this : {task : Task} {rest : List Task} → P task → OneOf P (task ∷ rest)
  later : {task : Task} {rest : List Task} → OneOf P rest → OneOf P (task ∷ rest)

-- the node threw or is terminated, in this phase or an earlier one
abbrev pub HasFailed : ℕ → ℕ → NodeEnd → Type 0
HasFailed phase at end = (at ≤ phase) × (is_failure end ≡ true)

-- a task of the block has, or its body
abbrev pub HasCause : List Task → Option Ended → ℕ → Type 0
HasCause tasks end phase = OneOf (λ task. HasFailed phase task.phase task.end) tasks ⊎ IsSomeAnd end (λ e. HasFailed phase e.phase e.end)

-- a task is discarded, and the body is cancelled, only where a node of the block threw or is terminated in that phase or an earlier one
pub record AreCaused (tasks : List Task) (end : Option Ended) : Type 0 where
  pub discarded : (phase : ℕ) → OneOf (λ task. (task.phase ≡ phase) × (is_discarded task.end ≡ true)) tasks → HasCause tasks end phase
  pub cancelled : IfSome end (λ e. is_cancelled e.end ≡ true → HasCause tasks end e.phase)
