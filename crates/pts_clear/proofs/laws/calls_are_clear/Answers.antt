use Rattle.pts_clear.proofs.ClearCalls.{calls_are_clear}
use Rattle.pts_clear.proofs.laws.calls_are_clear.Goals as goal

pub returns : goal.returns
returns g = calls_are_clear
