-- Which cells a point touches.
use Rattle.std.specs.Prelude.{◌≡◌, ℕ, ◌<◌, Bool, true, false, List, pos}
use Rattle.pts_affine.specs.Lines.{cell}
use Rattle.pts_points.specs.declared.point.CallInfo.{CallInfo}
use Rattle.pts_points.specs.declared.point.PointForm.{PointForm}
use Rattle.pts_points.specs.declared.point.PointForm.TheVariants as forms
use Rattle.pts_points.specs.declared.point.PointInfo.{PointInfo}
use Rattle.pts_program.specs.declared.info.ArrayInfo.{ArrayInfo}
use Rattle.pts_program.specs.Ranges.{length_at}

-- an `Update` reads and writes
abbrev pub is_writing : PointForm → Bool
is_writing forms.Read = false
is_writing forms.Plain = false
is_writing form = true

abbrev pub is_live_out : PointForm → Bool
is_live_out forms.LiveOut = true
is_live_out form = false

-- an index that is not known before the script runs; so far each one is a line
abbrev pub is_computed : PointInfo → Bool
is_computed x = false

-- the point, which counts at so many positions, touches this cell of its array at position p, whether or not its branch is taken;
-- one with an index that is computed touches every cell that the array has
pub record Touches (arrays : List ArrayInfo) (x : PointInfo) (positions p index : ℕ) : Type 0 where
  pub position : p < positions
  pub exists : index < length_at arrays x.array
  pub indexed : is_computed x ≡ false → cell x.line p ≡ pos index

-- at how many positions a point counts beside others of its call: the cell of a clause at each one, and that of an answer, which
-- is written after all reads, at none
abbrev pub positions_in_call : CallInfo → PointForm → ℕ → ℕ
positions_in_call call forms.LiveOut n = call.positions
positions_in_call call forms.Into n = 0
positions_in_call call forms.Plain n = 0
positions_in_call call form n = n

-- and beside other parts of its block
abbrev pub positions_beside : PointForm → ℕ → ℕ
positions_beside forms.Plain n = 0
positions_beside form n = n
