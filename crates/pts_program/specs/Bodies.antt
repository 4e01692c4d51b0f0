-- Bodies of blocks: what stands in a run, and how many runs and waits there are.
use Rattle.std.specs.Prelude.{◌≡◌, IsTrue, Bool, true, not, ◌&&◌, length, filter}
use Rattle.std.specs.List.{list_all}
use Rattle.pts_tree.specs.declared.block.Block.{Block}
use Rattle.pts_tree.specs.declared.block.TaskStmt.{TaskStmt}
use Rattle.pts_tree.specs.declared.block.TaskStmt.TheOpen.{TaskStmt-F}
use Rattle.pts_tree.specs.declared.block.TaskStmt.TheViews.{out-TaskStmt}
use Rattle.pts_constants.specs.Blocks.{is_run, is_wait}
use Rattle.pts_constants.specs.declared.infos.BlockInfo.{BlockInfo}

-- a statement that may stand in a `run`
abbrev pub stands_in_run : TaskStmt → Bool
stands_in_run x = not (is_run x) && not (is_wait x)

abbrev pub run_form_right : TaskStmt-F TaskStmt Block → Bool
run_form_right (TaskStmt-F.Run xs) = list_all stands_in_run xs
run_form_right _ = true

-- a statement of a block that, if it is a `run`, has no `run` and no `wait` directly inside
abbrev pub run_right : TaskStmt → Bool
run_right x = run_form_right (out-TaskStmt x)

-- Each `run` stands directly in the body of its block, and so does each `wait`; there are as many of them as the numbers say.
pub record IsBlockBody (block : BlockInfo) : Type 0 where
  pub alone : IsTrue (list_all run_right block.body.body)
  pub runs : block.runs ≡ length (filter is_run block.body.body)
  pub waits : block.waits ≡ length (filter is_wait block.body.body)
