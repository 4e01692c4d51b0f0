-- What the search goes by: first ones of those of which something holds.
use Rattle.std.specs.Prelude.{◌≡◌, ℕ, ◌<◌, ◌⊎◌, Bool, true, false, ◌&&◌, ◌||◌, if◌then◌else◌, IsSomeAnd, MatchOption, Option, Some, None, List, [], ◌∷◌, drop, length, slice_get, pos}
use Rattle.pts_affine.specs.declared.line.Line.{Line}
use Rattle.pts_affine.specs.Equations.{IsWanted}
use Rattle.pts_affine.specs.Lines.{IsBounded, cell}
use Rattle.pts_points.specs.declared.point.CallInfo.{CallInfo}
use Rattle.pts_points.specs.declared.point.PointForm.{PointForm}
use Rattle.pts_points.specs.declared.point.PointForm.TheVariants as forms
use Rattle.pts_points.specs.declared.point.PointInfo.{PointInfo}
use Rattle.pts_points.specs.Standings.{Ascends, IsCell}
use Rattle.pts_lowering.specs.declared.tasks.LoweredBlock.{LoweredBlock}
use Rattle.pts_lowering.specs.declared.tasks.LoweredTask.{LoweredTask}
use Rattle.pts_lowering.specs.declared.tasks.LoweredTask.TheOpen.{LoweredTask-F}
use Rattle.pts_lowering.specs.declared.tasks.LoweredTask.TheViews.{out-LoweredTask}
use Rattle.pts_program.specs.declared.lists.Lists.{Lists}
use Rattle.pts_layout.specs.Layout.{HavePoints, points_before}
use Rattle.pts_conflict.specs.declared.pair.Pair.{Pair}
use Rattle.pts_conflict.specs.declared.found.Found.{Found}
use Rattle.pts_conflict.specs.declared.meeting.Meeting.{Meeting}
use Rattle.pts_conflict.specs.Concurrency.{IsPointOfTasks, is_wait, phase}
use Rattle.pts_conflict.specs.Conflicts.{CallConflict, Conflicts, Names, are_ordered, is_at_most, rank}
use Rattle.pts_conflict.specs.Touches.{is_live_out, is_writing}

-- ---- first ones

-- P holds of x, and x has the lowest rank of those of which it holds
pub record IsFirst {A : Type 0} (P : A → Type 0) (rank : A → List ℕ) (x : A) : Type 0 where
  pub holds : P x
  pub least : (y : A) → P y → is_at_most (rank x) (rank y) ≡ true

-- what a search finds: the first one, or nothing exactly where there is none
abbrev pub FindsFirst : {A : Type 0} → (A → Type 0) → (A → List ℕ) → Option A → Type 0
FindsFirst {A} P rank found = MatchOption found ((x : A) → ¬ P x) (IsFirst P rank)

-- the one of lower rank, if there is one at all
abbrev pub lower : {A : Type 0} → (A → List ℕ) → Option A → Option A → Option A
lower rank None y = y
lower rank (Some x) None = Some x
lower rank (Some x) (Some y) = if is_at_most (rank x) (rank y) then Some x else Some y

-- it holds at one of these elements
abbrev pub OneOf : {A B : Type 0} → (B → A → Type 0) → List B → A → Type 0
OneOf P [] x = ⊥
OneOf P (y ∷ ys) x = P y x ⊎ OneOf P ys x

-- it holds at a number below this one
abbrev pub Below : {A : Type 0} → (ℕ → A → Type 0) → ℕ → A → Type 0
Below P n x = (c : ℕ) × (c < n) × P c x

-- ---- lines

abbrev pub by_place : Meeting → List ℕ
by_place x = x.p ∷ x.q ∷ x.cell ∷ []

-- two lines are at one cell at these positions, if need be the first at an earlier one
pub record Meets (after : Bool) (x y : Line) (z : Meeting) : Type 0 where
  pub wanted : IsWanted after x y z.p z.q
  pub at : cell x z.p ≡ pos z.cell

abbrev pub no_cells : Line
no_cells = record { c = pos 0; d = pos 0; n = 0 }

-- the line of a point in its call, and beside other parts of its block
abbrev pub line_in_call : CallInfo → PointForm → Line → Line
line_in_call call forms.LiveOut line = record line { n = call.positions }
line_in_call call forms.Into line = no_cells
line_in_call call forms.Plain line = no_cells
line_in_call call form line = line

abbrev pub line_beside : PointForm → Line → Line
line_beside forms.Plain line = no_cells
line_beside form line = line

-- ---- points

-- what a search asks of a point
pub record IsFit (x : PointInfo) : Type 0 where
  pub bounded : IsBounded x.line
  pub clause : x.form ≡ forms.LiveOut → IsCell x.line
  pub tests : Ascends 0 x.branches x.number

abbrev pub place_of : Pair → Meeting
place_of x = record { p = x.p; q = x.q; cell = x.cell }

-- points that meet along these lines
pub record MeetAlong (after : Bool) (a : PointInfo) (first : Line) (b : PointInfo) (second : Line) (x : Pair) : Type 0 where
  pub names : Names a b x
  pub array : a.array ≡ b.array
  pub writes : (is_writing a.form || is_writing b.form) ≡ true
  pub meets : Meets after first second (place_of x)

-- points a and b of a call that does not run in order conflict in it
pub record PairInCall (number : ℕ) (call : CallInfo) (is_loop : Bool) (a b : PointInfo) (x : Found) : Type 0 where
  pub of_call : x.call ≡ Some number
  pub meet : MeetAlong true a (line_in_call call a.form a.line) b (line_in_call call b.form b.line) x.pair
  pub single : (is_live_out a.form && is_live_out b.form) ≡ false
  pub unordered : are_ordered call.policy is_loop a b ≡ false

-- points a and b of two parts conflict
pub record PairOfParts (a b : PointInfo) (x : Found) : Type 0 where
  pub of_call : x.call ≡ None
  pub meet : MeetAlong false a (line_beside a.form a.line) b (line_beside b.form b.line) x.pair

abbrev pub rank_of : Found → List ℕ
rank_of x = rank x.call x.pair

-- a point of the first list and one of the second
abbrev pub Across : (PointInfo → PointInfo → Found → Type 0) → List PointInfo → List PointInfo → Found → Type 0
Across C xs ys = OneOf (λ a. OneOf (C a) ys) xs

abbrev pub by_pair : Pair → List ℕ
by_pair x = by_place (place_of x)

-- ---- programs

-- the conflicts of call c, and those of all calls
abbrev pub InCallOf : Lists → ℕ → Found → Type 0
InCallOf lists c x = (x.call ≡ Some c) × CallConflict lists c x.pair

abbrev pub InSomeCall : Lists → Found → Type 0
InSomeCall lists = Below (InCallOf lists) (length lists.calls)

abbrev pub run_form : LoweredTask-F LoweredTask → Bool
run_form (LoweredTask-F.Run xs) = true
run_form _ = false

abbrev pub is_run : LoweredTask → Bool
is_run x = run_form (out-LoweredTask x)

-- where the phase of a statement ends, if that of the statements behind it ends at this number
abbrev pub phase_end : LoweredTask → ℕ → ℕ → ℕ
phase_end task low stop = if is_wait task then low else stop

-- where these statements stand in a body, a conflict of what the first one runs with one behind it in the same phase; the points are those
-- of the item by their numbers
pub record Forks (lists : Lists) (points : List PointInfo) (task : LoweredTask) (rest : List LoweredTask) (x : Found) : Type 0 where
  pub tasks : List LoweredTask
  pub runs : out-LoweredTask task ≡ LoweredTask-F.Run tasks
  pub k : ℕ
  pub m : ℕ
  pub a : PointInfo
  pub b : PointInfo
  pub first : IsPointOfTasks lists tasks k
  pub second : IsPointOfTasks lists (phase rest) m
  pub first_point : slice_get points k ≡ Some a
  pub second_point : slice_get points m ≡ Some b
  pub pair : PairOfParts a b x

-- one of these statements forks so
abbrev pub SomeForks : Lists → List PointInfo → List LoweredTask → Found → Type 0
SomeForks lists points [] x = ⊥
SomeForks lists points (task ∷ rest) x = Forks lists points task rest x ⊎ SomeForks lists points rest x

-- the conflicts between parts of a block, of that of this number, and of all
abbrev pub InBlock : Lists → LoweredBlock → Found → Type 0
InBlock lists block = SomeForks lists (drop (points_before lists.points block.item) lists.points) block.body

abbrev pub InBlockOf : Lists → ℕ → Found → Type 0
InBlockOf lists n x = IsSomeAnd (slice_get lists.lowered_blocks n) (λ block. InBlock lists block x)

abbrev pub InSomeBlock : Lists → Found → Type 0
InSomeBlock lists = Below (InBlockOf lists) (length lists.lowered_blocks)

-- a statement has the points from some number on to before this one
abbrev pub EndsAt : Lists → List LoweredTask → ℕ → Type 0
EndsAt lists tasks end = (low : ℕ) × HavePoints lists tasks low end

-- the conflicts of a program
abbrev pub IsConflict : Lists → Found → Type 0
IsConflict lists x = Conflicts lists x.call x.pair
