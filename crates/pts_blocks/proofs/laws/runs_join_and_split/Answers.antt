use Rattle.pts_blocks.proofs.Stated.{cut, join}
use Rattle.pts_blocks.proofs.laws.runs_join_and_split.Goals as goal

pub returns-clause-join : goal.returns-clause-join
returns-clause-join g c = join g.B.Blocks.meaning

pub returns-clause-split : goal.returns-clause-split
returns-clause-split g c = cut g.B.Blocks.meaning
