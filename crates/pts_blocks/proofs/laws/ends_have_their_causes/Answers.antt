use Rattle.pts_blocks.proofs.Causes.{causes_show, ends_by_kind}
use Rattle.pts_blocks.proofs.laws.ends_have_their_causes.Goals as goal

pub returns-clause-kinds : goal.returns-clause-kinds
returns-clause-kinds g c = ends_by_kind g.B.Blocks.meaning

pub returns-clause-causes : goal.returns-clause-causes
returns-clause-causes g c = causes_show g.B.Blocks.meaning
