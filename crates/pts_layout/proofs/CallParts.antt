-- The points of a call are a part of the list.
use Rattle.std.proofs.Common.{◌≡◌, ℕ, ◌+◌, ◌-◌, ◌<◌, ◌≤◌, Some, None, Option, length, refl, arith}
use Rattle.std.specs.Prelude.{IsSomeAnd, slice_get}
use Rattle.std.proofs.lemmas.Option.{slice_get_within}
use Rattle.pts_points.specs.declared.point.CallInfo.{CallInfo}
use Rattle.pts_points.specs.declared.point.PointInfo.{PointInfo}
use Rattle.pts_points.specs.Standings.{HasPoint}
use Rattle.pts_program.specs.declared.lists.Lists.{Lists}
use Rattle.pts_program.specs.Lists.{IsProgram}
use Rattle.pts_layout.specs.Layout.{AreByItem, call_start, points_before}
use Rattle.pts_layout.proofs.Calls.{calls_have_points}
use Rattle.pts_layout.proofs.Items.{all_placed}

pub points_by_item : (lists : Lists) → IsProgram lists → AreByItem lists.points
points_by_item lists h = λ item j x at. (all_placed lists h).lower item j x at

-- the points of a call that has some end in the list
pub call_within : (lists : Lists) (c : ℕ) (call : CallInfo) → IsProgram lists → slice_get lists.calls c ≡ Some call → 0 < call.points → call_start lists.points call + call.points ≤ length lists.points
call_within lists c call h there some = by_point (slice_get lists.points (points_before lists.points call.item + last)) refl (calls_have_points lists c last call h there point)
  where
    last : ℕ
    last = call.first_point + (call.points - 1)

    point : HasPoint call last
    point = record { from = omega arith; before = omega (arith, some) }

    by_point : (o : Option PointInfo) → slice_get lists.points (points_before lists.points call.item + last) ≡ o → IsSomeAnd o (λ y. (y.item ≡ call.item) × (y.number ≡ last) × (y.call ≡ Some c))
        → points_before lists.points call.item + call.first_point + call.points ≤ length lists.points
    by_point None e h = absurd h
    by_point (Some y) e h = let within = slice_get_within lists.points (points_before lists.points call.item + (call.first_point + (call.points - 1))) y e in omega (arith, some, within)
