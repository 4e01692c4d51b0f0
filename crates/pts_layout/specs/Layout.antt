-- Where points stand in the list of a program: item by item, in an item by their numbers, and so those of a call and of a block.
use Rattle.std.specs.Prelude.{◌≡◌, ℕ, ◌+◌, ◌≤◌, ◌<◌, ◌↔◌, IsSomeAnd, nat_lt, count_by, Some, List, [], ◌∷◌, slice_get, slice_range}
use Rattle.pts_points.specs.declared.point.CallInfo.{CallInfo}
use Rattle.pts_points.specs.declared.point.PointInfo.{PointInfo}
use Rattle.pts_points.specs.Standings.{HasPoint}
use Rattle.pts_lowering.specs.declared.tasks.AssignPoints.{AssignPoints}
use Rattle.pts_lowering.specs.declared.tasks.LoweredBlock.{LoweredBlock}
use Rattle.pts_lowering.specs.declared.tasks.LoweredTask.{LoweredTask}
use Rattle.pts_lowering.specs.declared.tasks.LoweredTask.TheOpen.{LoweredTask-F}
use Rattle.pts_lowering.specs.declared.tasks.LoweredTask.TheViews.{out-LoweredTask}
use Rattle.pts_program.specs.declared.lists.Lists.{Lists}

-- ---- items

-- how many points belong to items before the one of this number
abbrev pub points_before : List PointInfo → ℕ → ℕ
points_before points item = count_by (λ x. nat_lt x.item item) points

-- the points of the items before an item are the first ones of the list
abbrev pub AreByItem : List PointInfo → Type 0
AreByItem points = (item j : ℕ) (x : PointInfo) → slice_get points j ≡ Some x → (x.item < item) ↔ (j < points_before points item)

-- behind the points of the items before there is point k of the item
abbrev pub StandsAt : List PointInfo → ℕ → ℕ → (PointInfo → Type 0) → Type 0
StandsAt points item k P = IsSomeAnd (slice_get points (points_before points item + k)) (λ x. (x.item ≡ item) × (x.number ≡ k) × P x)

-- ---- calls

-- this is a point of the call of number c
abbrev pub IsPointOfCall : Lists → PointInfo → ℕ → Type 0
IsPointOfCall lists x c = IsSomeAnd (slice_get lists.calls c) (λ call. (call.item ≡ x.item) × HasPoint call x.number)

-- where the points of a call begin
abbrev pub call_start : List PointInfo → CallInfo → ℕ
call_start points call = points_before points call.item + call.first_point

-- the points of a call, in the order of their numbers
abbrev pub points_of_call : List PointInfo → CallInfo → List PointInfo
points_of_call points call = slice_range points (call_start points call) (call_start points call + call.points)

-- ---- blocks

-- the point of this number is one of a block
pub record IsWithin (block : LoweredBlock) (k : ℕ) : Type 0 where
  pub from : block.first_point ≤ k
  pub before : k < block.first_point + block.points

-- These statements of a block have the points from one number on to before another one, each statement behind the one before
-- it: an assignment those that it names, and a call or a block those that the lists name.
pub data HavePoints (lists : Lists) : List LoweredTask → ℕ → ℕ → Type 0 where
  none : {n : ℕ} → HavePoints lists [] n n
  wait : {x : LoweredTask} {xs : List LoweredTask} {low end : ℕ} → out-LoweredTask x ≡ LoweredTask-F.Wait → HavePoints lists xs low end → HavePoints lists (x ∷ xs) low end
  throw : {x : LoweredTask} {xs : List LoweredTask} {low end : ℕ} (code : ℕ) → out-LoweredTask x ≡ LoweredTask-F.Throw code → HavePoints lists xs low end → HavePoints lists (x ∷ xs) low end
  assign : {x : LoweredTask} {xs : List LoweredTask} {low end : ℕ} (at : AssignPoints) → out-LoweredTask x ≡ LoweredTask-F.Assign at → at.first ≡ low → at.first ≤ at.write
      → HavePoints lists xs (at.write + 1) end → HavePoints lists (x ∷ xs) low end
  call : {x : LoweredTask} {xs : List LoweredTask} {low end : ℕ} (n : ℕ) (call : CallInfo) → out-LoweredTask x ≡ LoweredTask-F.Call n → slice_get lists.calls n ≡ Some call → call.first_point ≡ low
      → HavePoints lists xs (call.first_point + call.points) end → HavePoints lists (x ∷ xs) low end
  block : {x : LoweredTask} {xs : List LoweredTask} {low end : ℕ} (n : ℕ) (block : LoweredBlock) → out-LoweredTask x ≡ LoweredTask-F.Block n → slice_get lists.lowered_blocks n ≡ Some block → block.first_point ≡ low
      → HavePoints lists xs (block.first_point + block.points) end → HavePoints lists (x ∷ xs) low end
  run : {x : LoweredTask} {xs : List LoweredTask} {low end : ℕ} (body : List LoweredTask) (middle : ℕ) → out-LoweredTask x ≡ LoweredTask-F.Run body → HavePoints lists body low middle
      → HavePoints lists xs middle end → HavePoints lists (x ∷ xs) low end

-- the body of a block has the points of the block
abbrev pub IsInOrder : Lists → LoweredBlock → Type 0
IsInOrder lists x = HavePoints lists x.body x.first_point (x.first_point + x.points)
