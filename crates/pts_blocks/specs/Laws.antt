-- Laws of task blocks, whatever their assignments and calls mean.
use Rattle.std.specs.Prelude.{◌≡◌, ◌↔◌, ◌||◌, ◌++◌, Bool, true, false, Option, None, IfSome, List, [], ◌∷◌}
use Rattle.pts_lowering.specs.declared.tasks.LoweredBlock.{LoweredBlock}
use Rattle.pts_lowering.specs.declared.tasks.LoweredTask.{LoweredTask, out-LoweredTask}
use Rattle.pts_lowering.specs.declared.tasks.LoweredTask.TheOpen.{LoweredTask-F}
use Rattle.pts_store.specs.Stores.{Store}
use Rattle.pts_blocks.specs.declared.notes.Note.{Note}
use Rattle.pts_blocks.specs.declared.trees.Tree.{Tree}
use Rattle.pts_blocks.specs.Changes.{AreApart, changed_twice, with_changes}
use Rattle.pts_blocks.specs.Footprints.{Footprint, IsLocal, Touches, TouchesAt}
use Rattle.pts_blocks.specs.Frames.{Exchanged, IsFramed, IsSplit}
use Rattle.pts_blocks.specs.Meanings.{HasOneAnswer, Meaning}
use Rattle.pts_blocks.specs.Parts.{AreCaused, Ended, Part, end_of, followed, task_part}
use Rattle.pts_blocks.specs.Runs.{Fits, Form, IsTaskBody, Point, Runs, Does, behind_run, may_go, start, with_store}
use Rattle.pts_blocks.specs.Trees.{body_end, exceptions_of, is_cancelled, is_discarded, is_failure, is_terminated, is_thrown, some_end, some_own_end, some_task}

-- ---- trees

-- the exception list of a block is empty exactly where none of its own nodes threw
abbrev pub EmptyWhereNoneThrew : Type 0
EmptyWhereNoneThrew = (tree : Tree) → (exceptions_of tree ≡ []) ↔ (some_own_end is_thrown tree ≡ false)

-- where a block that fits has a terminated node inside it, one of its own nodes is terminated
abbrev pub TerminatedAtEachLevel : Meaning → Type 0
TerminatedAtEachLevel m =
    (alone : Bool) (block : LoweredBlock) (before after : Store) (tree : Tree) (notes : List Note) → Fits m alone block before tree notes after
    → some_end is_terminated tree ≡ some_own_end is_terminated tree

-- A body is not discarded, and no task is cancelled.
abbrev pub EndsByKind : Meaning → Type 0
EndsByKind m =
    (alone : Bool) (block : LoweredBlock) (before after : Store) (tree : Tree) (notes : List Note) → Fits m alone block before tree notes after
    → (is_discarded (body_end tree) ≡ false) × (some_task is_cancelled tree ≡ false)

-- where a task is discarded or the body is cancelled, a node of the block threw or is terminated
abbrev pub CausesShow : Meaning → Type 0
CausesShow m =
    (alone : Bool) (block : LoweredBlock) (before after : Store) (tree : Tree) (notes : List Note) → Fits m alone block before tree notes after
    → some_task is_discarded tree || is_cancelled (body_end tree) ≡ true → some_own_end is_failure tree ≡ true

-- a task spawns no tasks of its own, and is not cancelled
abbrev pub TasksSpawnNone : Meaning → Type 0
TasksSpawnNone m =
    (alone : Bool) (xs : List LoweredTask) (a b : Point) (e : Option Ended) (p : Part) → IsTaskBody xs → Runs m alone xs a e p b
    → (p.tasks ≡ []) × IfSome e (λ d. is_cancelled d.end ≡ false)

-- ---- one worker

-- a tree that fits a block that one worker runs alone fits it among several workers too
abbrev pub AloneIsPermitted : Meaning → Type 0
AloneIsPermitted m =
    (block : LoweredBlock) (before after : Store) (tree : Tree) (notes : List Note) → Fits m true block before tree notes after → Fits m false block before tree notes after

-- no task of it, or of a tree inside it, is discarded
abbrev pub AloneDiscardsNone : Meaning → Type 0
AloneDiscardsNone m =
    (block : LoweredBlock) (before after : Store) (tree : Tree) (notes : List Note) → Fits m true block before tree notes after → some_end is_discarded tree ≡ false

-- whoever runs alone need not ask for a cause
abbrev pub AloneIsCaused : Meaning → Type 0
AloneIsCaused m = (xs : List LoweredTask) (store : Store) (e : Option Ended) (p : Part) (b : Point) → Runs m true xs (start store) e p b → AreCaused p.tasks e

-- where each call has one answer, what a block that one worker runs comes to is a function of the block and the store
abbrev pub AloneIsSettled : Meaning → Type 0
AloneIsSettled m =
    HasOneAnswer m → (block : LoweredBlock) (before after after' : Store) (tree tree' : Tree) (notes notes' : List Note)
    → Fits m true block before tree notes after → Fits m true block before tree' notes' after' → (tree ≡ tree') × (notes ≡ notes') × (after ≡ after')

-- ---- parts of runs

abbrev pub RunsJoin : Meaning → Type 0
RunsJoin m =
    (alone : Bool) (xs ys : List LoweredTask) (a b c : Point) (e : Option Ended) (p q : Part) → Runs m alone xs a None p b → Runs m alone ys b e q c
    → Runs m alone (xs ++ ys) a e (followed p q) c

abbrev pub RunsSplit : Meaning → Type 0
RunsSplit m =
    (alone : Bool) (xs ys : List LoweredTask) (a c : Point) (e : Option Ended) (p : Part) → Runs m alone (xs ++ ys) a e p c → IsSplit m alone xs ys a e p c

-- ---- frames

-- What a run of statements writes lies in the cells that they write, and from each store that holds the same in the cells that they read there is
-- a run with the same ends, notes and changes.
abbrev pub RunsAreFramed : Meaning → Footprint → Type 0
RunsAreFramed m f =
    IsLocal m f → (alone : Bool) (xs : List LoweredTask) (a b : Point) (e : Option Ended) (p : Part) → Runs m alone xs a e p b
    → IsFramed (Touches m f false xs) (Touches m f true xs) (λ s t. Runs m alone xs (with_store a s) e p (with_store b t)) a.store b.store

-- so it is for one statement, and for a block with its tree and its notes
abbrev pub StatementsAreFramed : Meaning → Footprint → Type 0
StatementsAreFramed m f =
    IsLocal m f → (alone : Bool) (x : Form) (a b : Point) (e : Option Ended) (p : Part) → Does m alone x a e p b
    → IsFramed (TouchesAt m f false x) (TouchesAt m f true x) (λ s t. Does m alone x (with_store a s) e p (with_store b t)) a.store b.store

abbrev pub BlocksAreFramed : Meaning → Footprint → Type 0
BlocksAreFramed m f =
    IsLocal m f → (alone : Bool) (block : LoweredBlock) (before after : Store) (tree : Tree) (notes : List Note) → Fits m alone block before tree notes after
    → IsFramed (Touches m f false block.body) (Touches m f true block.body) (λ s t. Fits m alone block s tree notes t) before after

-- Two parts of a run of which neither writes what the other touches may stand in either order: of one node or of two, one behind the other.
abbrev pub RunsExchange : Meaning → Footprint → Type 0
RunsExchange m f =
    IsLocal m f → (alone other : Bool) (xs ys : List LoweredTask) (a b c d : Point) (e g : Option Ended) (p q : Part)
    → Runs m alone xs a e p b → Runs m other ys c g q d → c.store ≡ b.store
    → AreApart (Touches m f true xs) (Touches m f false ys) → AreApart (Touches m f true ys) (Touches m f false xs) → AreApart (Touches m f true xs) (Touches m f true ys)
    → Exchanged (λ s t. Runs m alone xs (with_store a s) e p (with_store b t)) (λ s t. Runs m other ys (with_store c s) g q (with_store d t)) a.store d.store

-- A task and the statements behind its `run` may both run on the store that there is at the `run`, where these read nothing that it writes.
-- What they change is then put over what it changes.
abbrev pub RunsFork : Meaning → Footprint → Type 0
RunsFork m f =
    IsLocal m f → (alone : Bool) (x : LoweredTask) (ys xs : List LoweredTask) (a b c : Point) (e g : Option Ended) (p q : Part)
    → out-LoweredTask x ≡ LoweredTask-F.Run ys → may_go alone a.failed ≡ true → IsTaskBody ys
    → Runs m alone ys (start a.store) e p b → Runs m alone xs (behind_run alone a (end_of e) a.store) g q c
    → AreApart (Touches m f true ys) (Touches m f false xs)
    → Runs m alone (x ∷ xs) a g (followed (task_part a.phase (end_of e) p) q) (with_store c (with_changes (changed_twice p.changes q.changes) a.store))
