use Rattle.std.proofs.Common.{[]}
use Rattle.pts_code.proofs.TypedFunctions.{functions_kinds}
use Rattle.pts_code.proofs.laws.names_of_functions_have_their_kinds.Goals as goal

pub returns : goal.returns
returns c = λ functions h. functions_kinds [] functions tt h
