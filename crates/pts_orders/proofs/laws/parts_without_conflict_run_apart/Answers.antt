use Rattle.pts_orders.proofs.Clear.{apart_run_apart}
use Rattle.pts_orders.proofs.laws.parts_without_conflict_run_apart.Goals as goal

pub returns : goal.returns
returns g c = apart_run_apart g.T.Touching.touches
