use Rattle.pts_passes.proofs.Orders.{offs_stand_together}
use Rattle.pts_passes.proofs.laws.offs_stand_together.Goals as goal

pub returns : goal.returns
returns g = offs_stand_together
