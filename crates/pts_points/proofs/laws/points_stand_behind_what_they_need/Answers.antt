use Rattle.pts_points.proofs.PointLists.{stands_behind, tests_shown}
use Rattle.pts_points.proofs.LetNotes.{lets_noted}
use Rattle.pts_points.proofs.laws.points_stand_behind_what_they_need.Goals as goal

pub returns-clause-all : goal.returns-clause-all
returns-clause-all c = stands_behind

pub returns-clause-shown : goal.returns-clause-shown
returns-clause-shown c = tests_shown

pub returns-clause-noted : goal.returns-clause-noted
returns-clause-noted c = lets_noted
