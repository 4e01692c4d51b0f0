-- Loops as the lists of a program show them.
use Rattle.std.specs.Prelude.{◌≡◌, ℕ, true, Some, slice_get}
use Rattle.std.specs.List.{Contains}
use Rattle.pts_points.specs.declared.point.CallInfo.{CallInfo}
use Rattle.pts_points.specs.Pieces.{Point}
use Rattle.pts_points.specs.Points as points
use Rattle.pts_program.specs.declared.lists.Lists.{Lists}
use Rattle.pts_store.specs.Stores.{Store}
use Rattle.pts_conflict.specs.Conflicts as conflicts
use Rattle.pts_conflict.specs.Conflicts.{is_loop}
use Rattle.pts_clear.specs.Showing.{HasArrays}
use Rattle.pts_passes.specs.Laws.{IsFree}
use Rattle.pts_loop_points.specs.LoopPoints.{IsOnLine, moved}
use Rattle.pts_passes.specs.Passes.{Pass, text_points}

-- ---- loops

-- call c of the lists is this loop: it has its policy, and its points are shown behind those that stand before them in the item
pub record IsLoopAt (lists : Lists) (c : ℕ) (pass : Pass) : Type 0 where
  pub info : CallInfo
  pub there : slice_get lists.calls c ≡ Some info
  pub same_policy : info.policy ≡ pass.head.policy
  pub loop : is_loop lists c ≡ true
  pub item : ℕ
  pub points_before : ℕ
  pub offs_before : ℕ
  pub shown : (k : ℕ) (x : Point) → slice_get (text_points pass) k ≡ Some x
      → Contains lists.points (moved item (Some c) points_before offs_before (points.info 0 x))
  pub lines : (k : ℕ) (x : Point) → slice_get (text_points pass) k ≡ Some x → IsOnLine x.deed

-- ---- laws

-- a loop of a program without conflict has no conflict
abbrev pub LoopsAreFree : Type 0
LoopsAreFree =
    (lists : Lists) (store : Store) (c : ℕ) (pass : Pass) → conflicts.IsClear lists → HasArrays lists store → IsLoopAt lists c pass → IsFree pass store
