use Rattle.pts_orders.proofs.Strips.{index_order_is_strips}
use Rattle.pts_orders.proofs.laws.index_order_is_strips.Goals as goal

pub returns : goal.returns
returns c = index_order_is_strips
