use Rattle.pts_orders.proofs.SideBySide.{run_apart}
use Rattle.pts_orders.proofs.laws.parts_run_apart.Goals as goal

pub returns : goal.returns
returns g c = run_apart
