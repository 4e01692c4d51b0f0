-- Blocks as trees in which calls, loops and inner blocks stand by their numbers, and assignments by their points.
use Rattle.std.specs.Prelude.{ℕ, ◌+◌, List, [], ◌∷◌, ◌++◌, map}
use Rattle.pts_tree.specs.declared.block.Block.{Block}
use Rattle.pts_tree.specs.declared.expr.Expr.{Expr}
use Rattle.pts_tree.specs.declared.block.TaskStmt.{TaskStmt}
use Rattle.pts_tree.specs.declared.block.TaskStmt.TheOpen.{TaskStmt-F}
use Rattle.pts_tree.specs.declared.block.TaskStmt.TheFolds.{fold-TaskStmt}
use Rattle.pts_tree.specs.declared.script.Item.{Item}
use Rattle.pts_tree.specs.declared.script.Item.TheVariants as items
use Rattle.pts_rules.specs.Parts.{Call, Loop}
use Rattle.pts_rules.specs.Counts.{reads, statement_points}
use Rattle.pts_code.specs.Values.{throw_code}
use Rattle.pts_lowering.specs.declared.tasks.LoweredBlock.{LoweredBlock}
use Rattle.pts_lowering.specs.declared.tasks.LoweredTask.{LoweredTask}
use Rattle.pts_lowering.specs.declared.tasks.LoweredTask.TheVariants as tasks
use Rattle.pts_lowering.specs.declared.blocks.Numbers.{Numbers}

-- ---- numbers

-- behind these numbers, so many points, calls and blocks
abbrev pub moved : Numbers → Numbers → Numbers
moved at n = record { points = at.points + n.points; calls = at.calls + n.calls; blocks = at.blocks + n.blocks }

abbrev pub none : Numbers
none = record { points = 0; calls = 0; blocks = 0 }

-- so many points of no call, a call of so many points, and a block around what takes these
abbrev pub points_alone : ℕ → Numbers
points_alone n = record { points = n; calls = 0; blocks = 0 }

abbrev pub call_with : ℕ → Numbers
call_with n = record { points = n; calls = 1; blocks = 0 }

abbrev pub block_around : Numbers → Numbers
block_around n = record n { blocks = 1 + n.blocks }

-- ---- statements of blocks

-- a statement: the numbers that it takes; and, where its first point, call and block have these numbers, the statement and the
-- blocks inside it
pub record Piece : Type 0 where
  pub takes : Numbers
  pub task : Numbers → LoweredTask
  pub blocks : Numbers → List LoweredBlock

-- the numbers that statements take
abbrev pub total : List Piece → Numbers
total [] = none
total (x ∷ xs) = moved x.takes (total xs)

-- statements one behind the other
abbrev pub each : List Piece → Numbers → List LoweredTask
each [] at = []
each (x ∷ xs) at = x.task at ∷ each xs (moved at x.takes)

-- and the blocks inside them
abbrev pub inner : List Piece → Numbers → List LoweredBlock
inner [] at = []
inner (x ∷ xs) at = x.blocks at ++ inner xs (moved at x.takes)

-- a statement without blocks
abbrev pub leaf : Numbers → (Numbers → LoweredTask) → Piece
leaf takes task = record { takes = takes; task = task; blocks = λ at. [] }

-- a block of the item of this number, before the blocks inside it
abbrev pub block_piece : ℕ → List Piece → Piece
block_piece item xs =
    record {
      takes = block_around (total xs);
      task = λ at. tasks.Block at.blocks;
      blocks =
          λ at.
          let inside : Numbers = record at { blocks = at.blocks + 1 } in
          record { item = item; first_point = at.points; points = (total xs).points; body = each xs inside } ∷ inner xs inside;
    }

-- an assignment of this value; the Reads of the value stand before its Write
abbrev pub assign_leaf : Expr → Piece
assign_leaf x = leaf (points_alone (reads x + 1)) (λ at. tasks.Assign (record { first = at.points; write = at.points + reads x }))

-- a call or a loop of so many points
abbrev pub call_leaf : ℕ → Piece
call_leaf n = leaf (call_with n) (λ at. tasks.Call at.calls)

abbrev pub task_step : ℕ → TaskStmt-F Piece (List Piece) → Piece
task_step item (TaskStmt-F.Run xs) = record { takes = total xs; task = λ at. tasks.Run (each xs at); blocks = inner xs }
task_step item TaskStmt-F.Wait = leaf none (λ at. tasks.Wait)
task_step item (TaskStmt-F.Throw n) = leaf none (λ at. tasks.Throw (throw_code n))
task_step item (TaskStmt-F.Assign to x) = assign_leaf x
task_step item (TaskStmt-F.Call x) = call_leaf (statement_points (Call x))
task_step item (TaskStmt-F.Loop x) = call_leaf (statement_points (Loop x))
task_step item (TaskStmt-F.Block xs) = block_piece item xs

-- a statement of a block of the item of this number
unfoldable pub task_piece : ℕ → TaskStmt → Piece
task_piece item = fold-TaskStmt Piece (List Piece) (task_step item) (λ x. x.body)

-- ---- items

-- a block of the item of this number
abbrev pub block_of : ℕ → Block → Piece
block_of item x = block_piece item (map (task_piece item) x.body)

-- the blocks of an item of this number, before which this many calls and blocks stand
abbrev pub lowered_blocks : ℕ → ℕ → ℕ → Item → List LoweredBlock
lowered_blocks item calls blocks (items.Block x) =
    (block_of item x).blocks (record { points = 0; calls = calls; blocks = blocks })
lowered_blocks item calls blocks x = []
