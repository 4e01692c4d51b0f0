-- The blocks of an item, in text order.
use Rattle.std.specs.Prelude.{ℕ, ◌-◌, ◌^◌, min, Bool, true, false, List, [], ◌∷◌, length, map, filter, flat_map}
use Rattle.pts_tree.specs.declared.block.Block.{Block}
use Rattle.pts_tree.specs.declared.block.TaskStmt.{TaskStmt}
use Rattle.pts_tree.specs.declared.block.TaskStmt.TheOpen.{TaskStmt-F}
use Rattle.pts_tree.specs.declared.block.TaskStmt.TheViews.{out-TaskStmt}
use Rattle.pts_tree.specs.declared.block.TaskStmt.TheFolds.{para-Block, para-TaskStmt}
use Rattle.pts_tree.specs.declared.script.Item.{Item}
use Rattle.pts_tree.specs.declared.script.Item.TheVariants as items
use Rattle.pts_rules.specs.Known.{Scope}
use Rattle.pts_constants.specs.declared.infos.BlockInfo.{BlockInfo}
use Rattle.pts_constants.specs.Resolved.{resolved_block}

-- ---- blocks

-- an outer block stands before those inside it; those inside a `run` are inside the block around it
abbrev pub inner_step : TaskStmt-F (TaskStmt × List Block) (Block × List Block) → List Block
inner_step (TaskStmt-F.Run xs) = flat_map (λ x. x.1) xs
inner_step (TaskStmt-F.Block x) = x.0 ∷ x.1
inner_step _ = []

-- the blocks inside a block
unfoldable pub inner_blocks : Block → List Block
inner_blocks = para-Block (List Block) (List Block) inner_step (λ x. flat_map (λ y. y.1) x.body)

-- the blocks of a statement of a block
unfoldable pub task_blocks : TaskStmt → List Block
task_blocks = para-TaskStmt (List Block) (List Block) inner_step (λ x. flat_map (λ y. y.1) x.body)

-- the blocks of an item
abbrev pub item_blocks : Item → List Block
item_blocks (items.Block x) = x ∷ inner_blocks x
item_blocks _ = []

-- ---- what is kept of a block

abbrev pub run_form : TaskStmt-F TaskStmt Block → Bool
run_form (TaskStmt-F.Run xs) = true
run_form _ = false

abbrev pub wait_form : TaskStmt-F TaskStmt Block → Bool
wait_form TaskStmt-F.Wait = true
wait_form _ = false

abbrev pub is_run : TaskStmt → Bool
is_run x = run_form (out-TaskStmt x)

abbrev pub is_wait : TaskStmt → Bool
is_wait x = wait_form (out-TaskStmt x)

-- how many of these statements pass the test; not more than a field of 32 bits holds
abbrev pub count : (TaskStmt → Bool) → List TaskStmt → ℕ
count test xs = min (length (filter test xs)) (2 ^ 32 - 1)

-- a block of the item of this number: how many `run` and `wait` statements stand directly in its body, and its text
abbrev pub info : Scope → ℕ → Block → BlockInfo
info scope number x = record { item = number; runs = count is_run x.body; waits = count is_wait x.body; body = resolved_block scope x }

-- the blocks of a statement of a block
unfoldable pub task_infos : Scope → ℕ → TaskStmt → List BlockInfo
task_infos scope number x = map (info scope number) (task_blocks x)

-- a block and the blocks inside it
abbrev pub block_infos : Scope → ℕ → Block → List BlockInfo
block_infos scope number x = map (info scope number) (x ∷ inner_blocks x)

-- the blocks of the item of this number
abbrev pub blocks_of : Scope → ℕ → Item → List BlockInfo
blocks_of scope number x = map (info scope number) (item_blocks x)
