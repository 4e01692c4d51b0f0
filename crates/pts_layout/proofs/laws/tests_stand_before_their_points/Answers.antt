use Rattle.pts_layout.proofs.Points.{tests_before}
use Rattle.pts_layout.proofs.laws.tests_stand_before_their_points.Goals as goal

pub returns : goal.returns
returns c = tests_before
