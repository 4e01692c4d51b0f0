use Rattle.pts_orders.proofs.Apart.{commute}
use Rattle.pts_orders.proofs.laws.evaluations_apart_commute.Goals as goal

pub returns : goal.returns
returns g c = λ cells notes effect. commute cells notes effect g.T.Touching.touches
