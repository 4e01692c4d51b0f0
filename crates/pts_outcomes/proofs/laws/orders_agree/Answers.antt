use Rattle.pts_outcomes.proofs.Orders.{orders_agree}
use Rattle.pts_outcomes.proofs.laws.orders_agree.Goals as goal

pub returns : goal.returns
returns g = orders_agree
