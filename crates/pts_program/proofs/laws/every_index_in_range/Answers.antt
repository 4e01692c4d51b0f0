use Rattle.pts_program.proofs.Insides.{points_in_range}
use Rattle.pts_program.proofs.laws.every_index_in_range.Goals as goal

pub returns : goal.returns
returns c = points_in_range
