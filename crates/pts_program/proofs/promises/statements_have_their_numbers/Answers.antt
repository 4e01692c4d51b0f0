use Rattle.pts_program.proofs.Numbered.{statements_numbered}
use Rattle.pts_program.proofs.promises.statements_have_their_numbers.Goals as goal

pub returns : goal.returns
returns c = statements_numbered
