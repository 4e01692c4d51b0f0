use Rattle.pts_points.proofs.Countings.{list_counted}
use Rattle.pts_points.proofs.laws.lines_have_the_points_that_are_counted.Goals as goal

pub returns : goal.returns
returns c = list_counted
