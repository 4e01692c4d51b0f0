use Rattle.pts_layout.proofs.Points.{into_cells, live_out_cells}
use Rattle.pts_layout.proofs.laws.clauses_and_answers_are_one_cell.Goals as goal

pub returns-clause-clauses : goal.returns-clause-clauses
returns-clause-clauses c = live_out_cells

pub returns-clause-answers : goal.returns-clause-answers
returns-clause-answers c = into_cells
