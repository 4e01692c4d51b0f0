use Rattle.pts_layout.proofs.Calls.{calls_have_points, points_of_call}
use Rattle.pts_layout.proofs.laws.points_of_calls_stand_together.Goals as goal

pub returns-clause-named : goal.returns-clause-named
returns-clause-named c = points_of_call

pub returns-clause-all : goal.returns-clause-all
returns-clause-all c = calls_have_points
