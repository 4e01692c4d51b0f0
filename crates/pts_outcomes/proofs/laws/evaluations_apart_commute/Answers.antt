use Rattle.pts_outcomes.proofs.Orders.{apart_commute}
use Rattle.pts_outcomes.proofs.laws.evaluations_apart_commute.Goals as goal

pub returns : goal.returns
returns g = apart_commute
