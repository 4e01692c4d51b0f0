use Rattle.pts_points.proofs.CallLists.{points_named, points_within}
use Rattle.pts_points.proofs.laws.calls_have_the_points_that_name_them.Goals as goal

pub returns-clause-named : goal.returns-clause-named
returns-clause-named c = points_named

pub returns-clause-within : goal.returns-clause-within
returns-clause-within c = points_within
