use Rattle.pts_syntax.proofs.OneFault.{no_fault_of_a_script}
use Rattle.pts_syntax.proofs.laws.no_fault_of_a_script.Goals as goal

pub returns : goal.returns
returns c = no_fault_of_a_script
