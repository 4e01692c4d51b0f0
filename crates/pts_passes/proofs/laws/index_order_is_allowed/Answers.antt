use Rattle.pts_passes.proofs.Orders.{index_order_is_allowed}
use Rattle.pts_passes.proofs.laws.index_order_is_allowed.Goals as goal

pub returns : goal.returns
returns g = index_order_is_allowed
