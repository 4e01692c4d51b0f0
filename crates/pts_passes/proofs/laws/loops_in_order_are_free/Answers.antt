use Rattle.pts_passes.proofs.Orders.{in_order_is_free}
use Rattle.pts_passes.proofs.laws.loops_in_order_are_free.Goals as goal

pub returns : goal.returns
returns g = in_order_is_free
