use Rattle.pts_steps.proofs.PointsOfLoops.{behind_needs, noted_here, numbers_here}
use Rattle.pts_steps.proofs.laws.points_of_loops_stand_behind_what_they_need.Goals as goal

pub returns-clause-numbers : goal.returns-clause-numbers
returns-clause-numbers c = numbers_here

pub returns-clause-all : goal.returns-clause-all
returns-clause-all c = behind_needs

pub returns-clause-noted : goal.returns-clause-noted
returns-clause-noted c = noted_here
