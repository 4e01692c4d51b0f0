use Rattle.pts_affine.proofs.Cells.{bounded-by-ends}
use Rattle.pts_affine.proofs.laws.lines_are_bounded_by_their_ends.Goals as goal

pub returns : goal.returns
returns c = bounded-by-ends
