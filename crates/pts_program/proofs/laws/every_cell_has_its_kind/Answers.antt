use Rattle.pts_program.proofs.Insides.{kinds_agree}
use Rattle.pts_program.proofs.laws.every_cell_has_its_kind.Goals as goal

pub returns : goal.returns
returns c = kinds_agree
