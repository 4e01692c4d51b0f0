use Rattle.pts_orders.proofs.Windows.{strips_in_windows}
use Rattle.pts_orders.proofs.laws.strips_run_in_windows.Goals as goal

pub returns : goal.returns
returns g c = strips_in_windows
