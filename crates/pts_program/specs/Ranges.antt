-- Points whose cells are those of their arrays, and arrays whose cells have their kinds.
use Rattle.std.specs.Prelude.{All, ℕ, ◌<◌, None, Some, List, length, slice_get, pos, ◌≤ℤ◌, ◌<ℤ◌}
use Rattle.pts_types.specs.Arithmetic.{IsValueOf}
use Rattle.pts_affine.specs.Lines.{cell, IsBounded}
use Rattle.pts_points.specs.declared.point.PointInfo.{PointInfo}
use Rattle.pts_program.specs.declared.info.ArrayInfo.{ArrayInfo}

-- how many cells the array of this number has; 0 where there is none
abbrev pub length_at : List ArrayInfo → ℕ → ℕ
length_at arrays n = elim (slice_get arrays n) [ None ↦ 0 | Some a ↦ length a.cells ]

-- at each of its positions a point is at a cell of its array, and its line has the bounds that a meeting of lines asks
pub record IsInRange (arrays : List ArrayInfo) (point : PointInfo) : Type 0 where
  pub cells : (p : ℕ) → p < point.line.n → (pos 0 ≤ℤ cell point.line p) × (cell point.line p <ℤ pos (length_at arrays point.array))
  pub bounded : IsBounded point.line

-- all cells of the array are values of its kind, in the range of the kind
abbrev pub IsOfKind : ArrayInfo → Type 0
IsOfKind a = All (IsValueOf a.kind) a.cells
