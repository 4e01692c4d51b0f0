use Rattle.pts_passes.proofs.Names.{names_are_known}
use Rattle.pts_passes.proofs.laws.names_are_known.Goals as goal

pub returns : goal.returns
returns g = names_are_known
