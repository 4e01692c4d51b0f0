use Rattle.pts_points.proofs.PointLists.{offs_together, offs_shown}
use Rattle.pts_points.proofs.laws.offs_stand_together.Goals as goal

pub returns-clause-all : goal.returns-clause-all
returns-clause-all c = offs_together

pub returns-clause-shown : goal.returns-clause-shown
returns-clause-shown c = offs_shown
