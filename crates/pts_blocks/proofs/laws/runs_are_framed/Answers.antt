use Rattle.pts_blocks.proofs.Stated.{block_framed, framed, statement_framed}
use Rattle.pts_blocks.proofs.laws.runs_are_framed.Goals as goal

pub returns-clause-runs : goal.returns-clause-runs
returns-clause-runs g c = framed g.B.Blocks.meaning g.B.Blocks.footprint

pub returns-clause-statements : goal.returns-clause-statements
returns-clause-statements g c = statement_framed g.B.Blocks.meaning g.B.Blocks.footprint

pub returns-clause-blocks : goal.returns-clause-blocks
returns-clause-blocks g c = block_framed g.B.Blocks.meaning g.B.Blocks.footprint
