use Rattle.pts_program.proofs.SoundFunctions.{functions_in_order}
use Rattle.pts_program.proofs.laws.functions_call_earlier_ones.Goals as goal

pub returns : goal.returns
returns c = functions_in_order
