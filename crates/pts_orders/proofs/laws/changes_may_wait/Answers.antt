use Rattle.pts_orders.proofs.SideBySide.{may_wait}
use Rattle.pts_orders.proofs.laws.changes_may_wait.Goals as goal

pub returns : goal.returns
returns g c = may_wait
