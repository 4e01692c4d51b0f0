use Rattle.pts_syntax.proofs.OneFault.{same_script}
use Rattle.pts_syntax.proofs.laws.one_script.Goals as goal

pub returns : goal.returns
returns c = same_script
