use Rattle.pts_orders.proofs.PartEnds.{parts_end_at_cuts}
use Rattle.pts_orders.proofs.laws.parts_end_at_cuts.Goals as goal

pub returns : goal.returns
returns c = parts_end_at_cuts
