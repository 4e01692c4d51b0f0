use Rattle.pts_orders.proofs.Strips.{strips_extend}
use Rattle.pts_orders.proofs.laws.strips_are_allowed.Goals as goal

pub returns : goal.returns
returns c = strips_extend
