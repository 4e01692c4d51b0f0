use Rattle.pts_orders.proofs.IndexOrder.{index_order_extends}
use Rattle.pts_orders.proofs.laws.index_order_is_allowed.Goals as goal

pub returns : goal.returns
returns c = index_order_extends
