use Rattle.pts_blocks.proofs.Stated.{fork}
use Rattle.pts_blocks.proofs.laws.runs_fork.Goals as goal

pub returns : goal.returns
returns g c = fork g.B.Blocks.meaning g.B.Blocks.footprint
