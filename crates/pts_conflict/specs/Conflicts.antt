-- Conflicts: two unordered evaluations that touch one cell, one of which writes it.
use Rattle.std.specs.Prelude.{◌≡◌, ◌≢◌, ℕ, ◌<◌, Bool, true, false, ◌&&◌, ◌||◌, not, ltb, eqb, Option, Some, None, List, [], ◌∷◌, slice_get}
use Rattle.std.specs.List.{Contains}
use Rattle.pts_types.specs.declared.operation.Policy.{Policy}
use Rattle.pts_types.specs.declared.operation.Policy.TheVariants as policies
use Rattle.pts_points.specs.declared.point.CallInfo.{CallInfo}
use Rattle.pts_points.specs.declared.point.PointInfo.{PointInfo}
use Rattle.pts_lowering.specs.declared.forms.LoweredCall.{LoweredCall}
use Rattle.pts_lowering.specs.declared.forms.LoweredCall.TheVariants as lowered
use Rattle.pts_program.specs.declared.info.ArrayInfo.{ArrayInfo}
use Rattle.pts_program.specs.declared.lists.Lists.{Lists}
use Rattle.pts_conflict.specs.declared.pair.Pair.{Pair}
use Rattle.pts_conflict.specs.Concurrency.{AreConcurrent}
use Rattle.pts_conflict.specs.Order.{is_before_across}
use Rattle.pts_conflict.specs.Touches.{Touches, is_live_out, is_writing, positions_beside, positions_in_call}

-- ---- two points

-- the pair names these two points
pub record Names (a b : PointInfo) (x : Pair) : Type 0 where
  pub item : x.item ≡ a.item
  pub array : x.array ≡ a.array
  pub k : x.k ≡ a.number
  pub m : x.m ≡ b.number

-- both points, which count at so many positions, touch the cell of the pair at its positions, and one of them writes it
pub record Meet (arrays : List ArrayInfo) (a : PointInfo) (n : ℕ) (b : PointInfo) (n' : ℕ) (x : Pair) : Type 0 where
  pub names : Names a b x
  pub array : a.array ≡ b.array
  pub writes : (is_writing a.form || is_writing b.form) ≡ true
  pub first : Touches arrays a n x.p x.cell
  pub second : Touches arrays b n' x.q x.cell

-- nothing is before the cell of a clause or behind it
abbrev pub are_ordered : Policy → Bool → PointInfo → PointInfo → Bool
are_ordered policy is_loop a b = not (is_live_out a.form || is_live_out b.form) && is_before_across policy is_loop a b

abbrev pub is_loop_form : Option LoweredCall → Bool
is_loop_form (Some (lowered.Loop x)) = true
is_loop_form x = false

-- the call of this number is a loop
abbrev pub is_loop : Lists → ℕ → Bool
is_loop lists c = is_loop_form (slice_get lists.lowered_calls c)

-- ---- pairs in one call

-- In call c, which does not run in order, points a and b meet at an earlier and a later position, and a is not before b there.
-- Two cells of clauses do not conflict.
pub record CallConflict (lists : Lists) (c : ℕ) (x : Pair) : Type 0 where
  pub call : CallInfo
  pub a : PointInfo
  pub b : PointInfo
  pub there : slice_get lists.calls c ≡ Some call
  pub policy : call.policy ≢ policies.Seq
  pub first : Contains lists.points a
  pub second : Contains lists.points b
  pub first_call : a.call ≡ Some c
  pub second_call : b.call ≡ Some c
  pub meet : Meet lists.arrays a (positions_in_call call a.form a.line.n) b (positions_in_call call b.form b.line.n) x
  pub later : x.p < x.q
  pub single : (is_live_out a.form && is_live_out b.form) ≡ false
  pub unordered : are_ordered call.policy (is_loop lists c) a b ≡ false

-- ---- pairs between parts

-- In a block, points a and b of parts that are concurrent meet, at whatever positions and under whatever policies.
pub record PartConflict (lists : Lists) (x : Pair) : Type 0 where
  pub a : PointInfo
  pub b : PointInfo
  pub first : Contains lists.points a
  pub second : Contains lists.points b
  pub one_item : b.item ≡ a.item
  pub concurrent : AreConcurrent lists a.item a.number b.number
  pub meet : Meet lists.arrays a (positions_beside a.form a.line.n) b (positions_beside b.form b.line.n) x

-- ---- the least one

-- in the call of this number, or, where there is none, between parts
abbrev pub Conflicts : Lists → Option ℕ → Pair → Type 0
Conflicts lists (Some c) x = CallConflict lists c x
Conflicts lists None x = PartConflict lists x

-- by the item; in an item the pairs of its calls come first, by call, positions and points, and then those between parts, by points
-- and positions
abbrev pub rank : Option ℕ → Pair → List ℕ
rank (Some c) x = x.item ∷ 0 ∷ c ∷ x.p ∷ x.q ∷ x.k ∷ x.m ∷ x.cell ∷ []
rank None x = x.item ∷ 1 ∷ x.k ∷ x.m ∷ x.p ∷ x.q ∷ x.cell ∷ 0 ∷ []

-- lists of numbers in the order of dictionaries
abbrev pub is_at_most : List ℕ → List ℕ → Bool
is_at_most [] ys = true
is_at_most (x ∷ xs) [] = false
is_at_most (x ∷ xs) (y ∷ ys) = ltb x y || (eqb x y && is_at_most xs ys)

-- a conflict of the program, and none is before it
pub record IsLeastConflict (lists : Lists) (x : Pair) : Type 0 where
  pub call : Option ℕ
  pub conflicts : Conflicts lists call x
  pub least : (other : Option ℕ) (y : Pair) → Conflicts lists other y → is_at_most (rank call x) (rank other y) ≡ true

-- the program has no conflict
abbrev pub IsClear : Lists → Type 0
IsClear lists = (call : Option ℕ) (x : Pair) → ¬ Conflicts lists call x
