use Rattle.pts_run.proofs.Exclusions.{excludes}
use Rattle.pts_run.proofs.laws.takes_or_refuses.Goals as goal

pub returns : goal.returns
returns c = excludes
