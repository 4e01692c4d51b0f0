use Rattle.pts_passes.proofs.Orders.{ends_agree, orders_agree}
use Rattle.pts_passes.proofs.laws.orders_agree.Goals as goal

pub returns-clause-outcomes : goal.returns-clause-outcomes
returns-clause-outcomes c = orders_agree

pub returns-clause-ends : goal.returns-clause-ends
returns-clause-ends c = ends_agree
