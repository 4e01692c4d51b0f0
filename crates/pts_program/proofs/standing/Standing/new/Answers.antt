use Rattle.std.proofs.Common.{refl}
use Rattle.pts_program.proofs.Declared.{none_standing}
use Rattle.pts_program.proofs.standing.Standing.new.Goals as goal

pub returns : goal.returns
returns c = none_standing _ c.new.ensures refl refl
