use Rattle.pts_blocks.proofs.Stated.{exchange}
use Rattle.pts_blocks.proofs.laws.runs_apart_exchange.Goals as goal

pub returns : goal.returns
returns g c = exchange g.B.Blocks.meaning g.B.Blocks.footprint
