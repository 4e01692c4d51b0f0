use Rattle.pts_program.proofs.FirstFaults.{fault-unique}
use Rattle.pts_program.proofs.laws.one_fault.Goals as goal

pub returns : goal.returns
returns c = fault-unique
