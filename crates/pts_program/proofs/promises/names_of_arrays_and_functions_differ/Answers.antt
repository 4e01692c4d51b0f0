use Rattle.pts_program.proofs.Shown.{names_differ}
use Rattle.pts_program.proofs.promises.names_of_arrays_and_functions_differ.Goals as goal

pub returns : goal.returns
returns c = names_differ
