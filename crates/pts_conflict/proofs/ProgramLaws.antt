-- What the search needs of every program.
use Rattle.std.proofs.Common.{◌≡◌, ℕ, ◌+◌, ◌^◌, ◌≤◌, Some, get_or, slice_get}
use Rattle.std.specs.Prelude.{All}
use Rattle.std.proofs.lemmas.Option.{slice_get-get_or}
use Rattle.pts_points.specs.declared.point.CallInfo.{CallInfo}
use Rattle.pts_points.specs.declared.point.PointInfo.{PointInfo}
use Rattle.pts_points.specs.Standings.{HasPoint}
use Rattle.pts_lowering.specs.declared.tasks.LoweredBlock.{LoweredBlock}
use Rattle.pts_program.specs.declared.lists.Lists.{Lists}
use Rattle.pts_program.specs.Lists.{IsProgram}
use Rattle.pts_program.specs.Ranges.{IsInRange}
use Rattle.pts_program.proofs.Insides.{points_in_range}
use Rattle.pts_layout.specs.Layout.{IsInOrder, IsPointOfCall, IsWithin, StandsAt, points_before}
use Rattle.pts_layout.proofs.BlockFolds.{blocks_have_points, blocks_in_order}
use Rattle.pts_layout.proofs.Calls.{calls_have_points, points_of_call}
use Rattle.pts_layout.proofs.Items.{all_placed}
use Rattle.pts_layout.proofs.Points.{few_positions, live_out_cells, tests_before}
use Rattle.pts_conflict.specs.Search.{IsFit}

module _ (lists : Lists) (h : IsProgram lists) where
  pub placed : (j : ℕ) (x : PointInfo) → slice_get lists.points j ≡ Some x → j ≡ points_before lists.points x.item + x.number
  placed = (all_placed lists h).places

  pub named : (j c : ℕ) (x : PointInfo) → slice_get lists.points j ≡ Some x → x.call ≡ Some c → IsPointOfCall lists x c
  named j c x = points_of_call lists j c x h

  pub stands : (c k : ℕ) (call : CallInfo) → slice_get lists.calls c ≡ Some call → HasPoint call k → StandsAt lists.points call.item k (λ x. x.call ≡ Some c)
  stands c k call = calls_have_points lists c k call h

  pub in_order : All (IsInOrder lists) lists.lowered_blocks
  in_order = blocks_in_order lists h

  pub block_stands : (n k : ℕ) (block : LoweredBlock) → slice_get lists.lowered_blocks n ≡ Some block → IsWithin block k → StandsAt lists.points block.item k (λ x. x.item ≡ block.item)
  block_stands n k block = blocks_have_points lists n k block h

  pub in_range : All (IsInRange lists.arrays) lists.points
  in_range = points_in_range lists h

  pub few : All (λ call. call.positions ≤ 2 ^ 20) lists.calls
  few = few_positions lists h

  fit_at : (j : ℕ) (x : PointInfo) → slice_get lists.points j ≡ Some x → IsInRange lists.arrays x → IsFit x
  fit_at j x at range = record { bounded = range.bounded; clause = live_out_cells lists j x h at; tests = tests_before lists j x h at }

  pub fits : All IsFit lists.points
  fits k d within = fit_at k (get_or lists.points k d) (slice_get-get_or lists.points k d within) (in_range k d within)
