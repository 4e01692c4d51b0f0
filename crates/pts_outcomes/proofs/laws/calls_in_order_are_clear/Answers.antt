use Rattle.pts_outcomes.proofs.Orders.{in_order_is_clear}
use Rattle.pts_outcomes.proofs.laws.calls_in_order_are_clear.Goals as goal

pub returns : goal.returns
returns g = in_order_is_clear
