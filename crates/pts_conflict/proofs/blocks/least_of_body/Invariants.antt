use Rattle.std.proofs.Common.{◌+◌, ◌≤◌}
use Rattle.pts_conflict.proofs.Forking.{Found_behind}
use Rattle.pts_conflict.proofs.TaskPoints.{Behind}
use Rattle.pts_conflict.proofs.blocks.least_of_body.Given as goal

abbrev pub invariant-loop-i : goal.invariant-loop-i
invariant-loop-i l = Behind l.program l.body l.i l.at (l.block.first_point + l.block.points) × Found_behind l.program l.points l.body l.i l.at l.stop l.best × (l.stop ≤ l.block.first_point + l.block.points)
