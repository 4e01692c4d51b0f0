use Rattle.pts_steps.proofs.LoopsShown.{shows_the_same}
use Rattle.pts_steps.proofs.laws.loops_show_the_same_without_constants.Goals as goal

pub returns : goal.returns
returns c = shows_the_same
