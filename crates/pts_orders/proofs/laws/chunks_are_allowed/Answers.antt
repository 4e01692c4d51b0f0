use Rattle.pts_orders.proofs.Chunks.{chunks_extend}
use Rattle.pts_orders.proofs.laws.chunks_are_allowed.Goals as goal

pub returns : goal.returns
returns c = chunks_extend
