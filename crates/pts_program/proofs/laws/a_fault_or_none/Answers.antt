use Rattle.pts_program.proofs.Decisions.{decided-script}
use Rattle.pts_program.proofs.FirstFaults.{fault-or_sound}
use Rattle.pts_program.proofs.laws.a_fault_or_none.Goals as goal

pub returns-clause-one : goal.returns-clause-one
returns-clause-one c = decided-script

pub returns-clause-other : goal.returns-clause-other
returns-clause-other c = fault-or_sound
