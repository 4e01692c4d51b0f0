use Rattle.pts_run.proofs.Exclusions.{one_reason}
use Rattle.pts_run.proofs.laws.one_reason.Goals as goal

pub returns : goal.returns
returns c = one_reason
