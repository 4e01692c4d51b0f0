-- Where points stand: behind their tests, behind the `let`s that they may use, and behind their Reads.
use Rattle.std.specs.Prelude.{◌≡◌, ℕ, ◌+◌, ◌<◌, ◌≤◌, Some, List, [], ◌∷◌, slice_get, All, pos, ⊤}
use Rattle.pts_affine.specs.declared.line.Line.{Line}
use Rattle.pts_rules.specs.Counts.{reads}
use Rattle.pts_points.specs.declared.point.Branch.{Branch}
use Rattle.pts_points.specs.declared.point.CallInfo.{CallInfo}
use Rattle.pts_points.specs.Pieces.{LetPoint, Computation, Index, Along, Computed, Deed, Reads, Assigns, Updates, Notes, Tests, Gives, LivesOut, Answers, Point}

-- the tests ascend, none is below the first number, and each is below the last one
abbrev pub Ascends : ℕ → List Branch → ℕ → Type 0
Ascends low [] n = low ≤ n
Ascends low (b ∷ bs) n = (low ≤ b.test) × Ascends (b.test + 1) bs n

-- a `let` whose value is noted at a point before this number
abbrev pub IsNotedBefore : ℕ → LetPoint → Type 0
IsNotedBefore n x = x.point < n

-- the Reads of an expression end directly before this number
abbrev pub Ends : Computation → ℕ → Type 0
Ends x n = x.first + reads x.expr ≡ n

-- likewise those of an index that is computed
abbrev pub IndexEnds : Index → ℕ → Type 0
IndexEnds (Along line) n = ⊤
IndexEnds (Computed x) n = Ends x n

-- the Reads of what is done at a point of this number end directly before it; those of a place end before those of its value
abbrev pub ReadsEnd : Deed → ℕ → Type 0
ReadsEnd (Reads array index) n = IndexEnds index n
ReadsEnd (Assigns array index x) n = IndexEnds index x.first × Ends x n
ReadsEnd (Updates array index op x) n = IndexEnds index x.first × Ends x n
ReadsEnd (Notes x) n = Ends x n
ReadsEnd (Tests x) n = Ends x n
ReadsEnd (Gives view x) n = Ends x n
ReadsEnd _ n = ⊤

-- one cell, the same at each position
abbrev pub IsCell : Line → Type 0
IsCell line = (line.c ≡ pos 0) × (line.n ≡ 1)

-- what a clause, or the answer of a call, is written to is one cell
abbrev pub IsOneCell : Deed → Type 0
IsOneCell (LivesOut array line) = IsCell line
IsOneCell (Answers array line) = IsCell line
IsOneCell _ = ⊤

-- a point stands behind all that it needs
pub record StandsBehind (x : Point) : Type 0 where
  pub tests : Ascends 0 x.context.branches x.number
  pub lets : All (IsNotedBefore x.number) x.context.lets
  pub reads : ReadsEnd x.deed x.number

-- the `let` is noted at the point that it names, as a value of its kind
pub record IsNoted (points : List Point) (x : LetPoint) : Type 0 where
  pub point : Point
  pub there : slice_get points x.point ≡ Some point
  pub value : Computation
  pub notes : point.deed ≡ Notes value
  pub kind : value.kind ≡ x.kind

-- what stands between two points of one `off` has it too
abbrev pub AreTogether : List Point → Type 0
AreTogether points =
    (i j k : ℕ) (x y z : Point) (off : ℕ) → i < j → j < k → slice_get points i ≡ Some x → slice_get points j ≡ Some y → slice_get points k ≡ Some z
    → x.context.off ≡ Some off → z.context.off ≡ Some off → y.context.off ≡ Some off

-- the point of this number is one of the call
pub record HasPoint (call : CallInfo) (k : ℕ) : Type 0 where
  pub from : call.first_point ≤ k
  pub before : k < call.first_point + call.points
