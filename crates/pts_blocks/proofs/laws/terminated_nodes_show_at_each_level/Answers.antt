use Rattle.pts_blocks.proofs.Stated.{at_each_level}
use Rattle.pts_blocks.proofs.laws.terminated_nodes_show_at_each_level.Goals as goal

pub returns : goal.returns
returns g c = at_each_level g.B.Blocks.meaning
