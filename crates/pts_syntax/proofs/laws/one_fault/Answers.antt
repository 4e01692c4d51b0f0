use Rattle.pts_syntax.proofs.OneFault.{same_fault}
use Rattle.pts_syntax.proofs.laws.one_fault.Goals as goal

pub returns : goal.returns
returns c = same_fault
