-- What is done at the points of a call. What an expression gives is a function of the position and of what has been noted there.
use Rattle.std.specs.Prelude.{ℕ, Option, List}
use Rattle.pts_types.specs.declared.operation.ScalarOp.{ScalarOp}
use Rattle.pts_affine.specs.declared.line.Line.{Line}
use Rattle.pts_code.specs.Outcomes.{Outcome}
use Rattle.pts_points.specs.declared.point.Branch.{Branch}

-- what has been noted at a position, by the numbers of the points
abbrev pub Notes : Type 0
Notes = List (Option Outcome)

-- what an expression gives at a position with these notes
abbrev pub Computation : Type 0
Computation = ℕ → Notes → Outcome

-- which cells of an array a point is at: at each position that of a line, or the one whose index is computed there
pub data Index : Type 0 where
  Along : Line → Index
  Computed : Computation → Index

pub record Place : Type 0 where
  pub array : ℕ
  pub index : Index

-- what is done at a point: a read, the write of a value, an update by an operation, or the note of a value, which is that of a
-- `let` or of a test, or is given to a view
pub data Act : Type 0 where
  Reads : Place → Act
  Writes : Place → Computation → Act
  Updates : Place → ScalarOp → Computation → Act
  Computes : Computation → Act

-- a point of a call: the tests that it stands under, and what is done there
pub record Point : Type 0 where
  pub branches : List Branch
  pub act : Act
