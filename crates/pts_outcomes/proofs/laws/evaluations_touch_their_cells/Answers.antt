use Rattle.pts_outcomes.proofs.Touched.{touch_law}
use Rattle.pts_outcomes.proofs.laws.evaluations_touch_their_cells.Goals as goal

pub returns : goal.returns
returns g = touch_law
