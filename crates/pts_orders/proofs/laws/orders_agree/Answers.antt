use Rattle.pts_orders.proofs.IndexOrder.{extensions_agree}
use Rattle.pts_orders.proofs.laws.orders_agree.Goals as goal

pub returns : goal.returns
returns g c = extensions_agree
