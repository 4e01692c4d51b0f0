use Rattle.pts_cells.proofs.Cells.{others, swaps}
use Rattle.pts_cells.proofs.laws.cells_are_written_apart.Goals as goal

pub returns-clause-others : goal.returns-clause-others
returns-clause-others g = others

pub returns-clause-swaps : goal.returns-clause-swaps
returns-clause-swaps g = swaps
