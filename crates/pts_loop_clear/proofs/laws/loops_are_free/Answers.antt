use Rattle.pts_loop_clear.proofs.ClearLoops.{loops_are_free}
use Rattle.pts_loop_clear.proofs.laws.loops_are_free.Goals as goal

pub returns : goal.returns
returns g = loops_are_free
