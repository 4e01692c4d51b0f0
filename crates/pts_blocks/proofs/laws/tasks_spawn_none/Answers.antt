use Rattle.pts_blocks.proofs.Stated.{spawn_none}
use Rattle.pts_blocks.proofs.laws.tasks_spawn_none.Goals as goal

pub returns : goal.returns
returns g c = spawn_none g.B.Blocks.meaning
