use Rattle.pts_points.proofs.PointLists.{live_out_shown, into_shown}
use Rattle.pts_points.proofs.laws.clauses_and_answers_have_one_cell.Goals as goal

pub returns-clause-clauses : goal.returns-clause-clauses
returns-clause-clauses c = live_out_shown

pub returns-clause-answers : goal.returns-clause-answers
returns-clause-answers c = into_shown
