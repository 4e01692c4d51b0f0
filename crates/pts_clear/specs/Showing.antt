-- Calls by their evaluations, as the lists of a program show them.
use Rattle.std.specs.Prelude.{◌≡◌, ℕ, false, ◌<◌, Some, List, slice_get, length}
use Rattle.std.specs.List.{Contains}
use Rattle.pts_types.specs.declared.operation.Policy.{Policy}
use Rattle.pts_points.specs.declared.point.CallInfo.{CallInfo}
use Rattle.pts_points.specs.declared.point.PointForm.TheVariants as forms
use Rattle.pts_points.specs.declared.point.PointInfo.{PointInfo}
use Rattle.pts_program.specs.declared.info.ArrayInfo.{ArrayInfo}
use Rattle.pts_program.specs.declared.lists.Lists.{Lists}
use Rattle.pts_program.specs.Ranges.{length_at}
use Rattle.pts_store.specs.Stores.{Store, cells_in}
use Rattle.pts_conflict.specs.Conflicts as conflicts
use Rattle.pts_conflict.specs.Conflicts.{is_loop}
use Rattle.pts_outcomes.specs.Acts.{Act, Along, Computed, Computes, Index, Place, Point, Reads, Updates, Writes}
use Rattle.pts_outcomes.specs.Calls.{Call, keeps_order}
use Rattle.pts_outcomes.specs.Laws.{IsClear}

-- ---- points

-- so far each index is a line
abbrev pub ShowsIndex : PointInfo → Index → Type 0
ShowsIndex info (Along line) = info.line ≡ line
ShowsIndex info (Computed x) = ⊥

pub record ShowsPlace (info : PointInfo) (place : Place) : Type 0 where
  pub array : info.array ≡ place.array
  pub index : ShowsIndex info place.index

-- a point of the lists shows what is done
abbrev pub ShowsAct : PointInfo → Act → Type 0
ShowsAct info (Reads place) = (info.form ≡ forms.Read) × ShowsPlace info place
ShowsAct info (Writes place x) = (info.form ≡ forms.Write) × ShowsPlace info place
ShowsAct info (Updates place op x) = (info.form ≡ forms.Update) × ShowsPlace info place
ShowsAct info (Computes x) = Unit {0}

-- a point of call c in the lists shows this one
pub record IsShown (lists : Lists) (c : ℕ) (point : Point) : Type 0 where
  pub info : PointInfo
  pub there : Contains lists.points info
  pub call : info.call ≡ Some c
  pub act : ShowsAct info point.act

-- ---- calls

-- the call of number c, which is no loop, has this policy and shows the points of this one
pub record IsCallAt (lists : Lists) (c : ℕ) (policy : Policy) (call : Call) : Type 0 where
  pub info : CallInfo
  pub there : slice_get lists.calls c ≡ Some info
  pub same_policy : info.policy ≡ policy
  pub no_loop : is_loop lists c ≡ false
  pub points : 0 < call.positions → (k : ℕ) (point : Point) → slice_get call.points k ≡ Some point → IsShown lists c point

-- the store has the cells of these arrays
pub record HasCells (arrays : List ArrayInfo) (store : Store) : Type 0 where
  pub cells : (array : ℕ) → length (cells_in store array) ≡ length_at arrays array

-- the store has the arrays of the program
abbrev pub HasArrays : Lists → Store → Type 0
HasArrays lists store = HasCells lists.arrays store

-- ---- laws

-- a call of a program without conflict has no conflict
abbrev pub CallsAreClear : Type 0
CallsAreClear =
    (lists : Lists) (store : Store) (c : ℕ) (policy : Policy) (call : Call) → conflicts.IsClear lists → HasArrays lists store → IsCallAt lists c policy call
    → IsClear store (keeps_order policy) call
