use Rattle.pts_points.proofs.PointLists.{number_shown}
use Rattle.pts_points.proofs.laws.numbers_are_places.Goals as goal

pub returns : goal.returns
returns c = number_shown
