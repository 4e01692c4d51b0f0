use Rattle.pts_orders.proofs.Clear.{clear_orders_agree}
use Rattle.pts_orders.proofs.laws.orders_without_conflict_agree.Goals as goal

pub returns : goal.returns
returns g c = clear_orders_agree g.T.Touching.touches
