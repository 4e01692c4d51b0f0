use Rattle.pts_loop_points.proofs.LoopCalls.{loop_stands}
use Rattle.pts_loop_points.proofs.laws.loops_stand_in_the_lists.Goals as goal

pub returns : goal.returns
returns c = loop_stands
