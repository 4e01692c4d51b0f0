-- The loops of a program: their points in its list, and their heads in numbers.
use Rattle.std.specs.Prelude.{◌≡◌, ℕ, ◌+◌, ◌<◌, true, ⊤, All, Option, Some, List, length, map, option_map, slice_get, pos, ◌+ℤ◌, ◌*ℤ◌}
use Rattle.pts_types.specs.declared.value.Kind.TheVariants as kinds
use Rattle.pts_tree.specs.declared.loops.Loop as loops
use Rattle.pts_rules.specs.Known.{Scope, holds}
use Rattle.pts_constants.specs.Resolved.{resolved_loop}
use Rattle.pts_constants.specs.declared.texts.CallText.TheVariants as texts
use Rattle.pts_points.specs.declared.point.Branch.{Branch}
use Rattle.pts_points.specs.declared.point.CallInfo.{CallInfo}
use Rattle.pts_points.specs.declared.point.PointInfo.{PointInfo}
use Rattle.pts_points.specs.Pieces.{Along, Assigns, Computed, Deed, Index, Point, Reads, Updates}
use Rattle.pts_points.specs.Points.{info}
use Rattle.pts_lowering.specs.declared.forms.CellIndex.{CellIndex}
use Rattle.pts_lowering.specs.declared.forms.InitialValue.{InitialValue}
use Rattle.pts_lowering.specs.declared.forms.InitialValue.TheVariants as initials
use Rattle.pts_lowering.specs.declared.forms.LoopClause.{LoopClause}
use Rattle.pts_lowering.specs.declared.forms.LoopClause.TheVariants as clauses
use Rattle.pts_lowering.specs.declared.forms.LoweredLoop.{LoweredLoop}
use Rattle.pts_program.specs.declared.info.ArrayInfo.{ArrayInfo}
use Rattle.pts_program.specs.declared.lists.Lists.{Lists}
use Rattle.pts_program.specs.Globals.{globals_of}
use Rattle.pts_program.specs.Ranges.{length_at}
use Rattle.pts_layout.specs.Layout.{points_before}
use Rattle.pts_steps.specs.Shown.{IsLoopOf}
use Rattle.pts_steps.specs.Steps.{loop_points}

-- ---- points

-- the same side of a test n points later
abbrev pub moved_branch : ℕ → Branch → Branch
moved_branch n b = record { test = n + b.test; taken = b.taken }

-- a point of a loop that is a call of an item, behind n points of the item and m numbers of `off`
abbrev pub moved : ℕ → Option ℕ → ℕ → ℕ → PointInfo → PointInfo
moved item call n m x =
    record {
      item = item;
      number = n + x.number;
      call = call;
      form = x.form;
      array = x.array;
      line = x.line;
      branches = map (moved_branch n) x.branches;
      off = option_map (λ d. m + d) x.off;
    }

abbrev pub IsLine : Index → Type 0
IsLine (Along line) = ⊤
IsLine (Computed x) = ⊥

-- so far each index is a line
abbrev pub IsOnLine : Deed → Type 0
IsOnLine (Reads array index) = IsLine index
IsOnLine (Assigns array index x) = IsLine index
IsOnLine (Updates array index op x) = IsLine index
IsOnLine deed = ⊤

-- Call c of a program is a loop with this text without constants. It has as many points as the call says, and the list has
-- each of them, in order: behind the points of the items before its own, and behind those of its item before the first one of
-- the call. `offs` is how many numbers of `off` its item has before it.
pub record ShowsLoop (lists : Lists) (c : ℕ) (call : CallInfo) (x : loops.Loop) : Type 0 where
  pub offs : ℕ
  pub count : length (loop_points (globals_of lists) x) ≡ call.points
  pub shown : (k : ℕ) (point : Point) → slice_get (loop_points (globals_of lists) x) k ≡ Some point
      → slice_get lists.points (points_before lists.points call.item + (call.first_point + k)) ≡ Some (moved call.item (Some c) call.first_point offs (info 0 point))

-- ---- heads

-- the cell of a clause is one of these arrays
abbrev pub HasItsCell : List ArrayInfo → CellIndex → Type 0
HasItsCell arrays cell = cell.index < length_at arrays cell.array

abbrev pub HasInitialCell : List ArrayInfo → InitialValue → Type 0
HasInitialCell arrays (initials.Value value) = Unit {0}
HasInitialCell arrays (initials.Cell cell) = HasItsCell arrays cell

abbrev pub HasClauseCell : List ArrayInfo → LoopClause → Type 0
HasClauseCell arrays (clauses.Reduction x) = HasItsCell arrays x.cell
HasClauseCell arrays (clauses.Induction x) = HasInitialCell arrays x.initial

-- the index of a loop has a value at each of its positions
abbrev pub HasIndices : LoweredLoop → Type 0
HasIndices head = (p : ℕ) → p < head.positions → holds kinds.I64 (head.first +ℤ pos p *ℤ head.step) ≡ true

-- Call c of a program is this loop in numbers. Its text is that of a loop of the script, without constants, and the lists show
-- the points of it, on lines; its index has a value at each position, and the cells of its clauses are there.
pub record IsLoopCall (lists : Lists) (c : ℕ) (call : CallInfo) (head : LoweredLoop) : Type 0 where
  pub text : loops.Loop
  pub there : slice_get lists.texts c ≡ Some (texts.Loop text)
  pub shows : ShowsLoop lists c call text
  pub lines : (k : ℕ) (point : Point) → slice_get (loop_points (globals_of lists) text) k ≡ Some point → IsOnLine point.deed
  pub scope : Scope
  pub source : loops.Loop
  pub text_is : text ≡ resolved_loop scope source
  pub source_fits : IsLoopOf scope (globals_of lists) source
  pub policy : call.policy ≡ head.policy
  pub indices : HasIndices head
  pub cells : All (HasClauseCell lists.arrays) head.clauses
