use Rattle.pts_layout.proofs.Points.{few_positions}
use Rattle.pts_layout.proofs.laws.calls_have_few_positions.Goals as goal

pub returns : goal.returns
returns c = few_positions
