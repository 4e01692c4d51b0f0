use Rattle.pts_conflict.specs.Search.{EndsAt}
use Rattle.pts_conflict.proofs.TaskPoints.{Behind}
use Rattle.pts_conflict.proofs.blocks.+first_point.Given as goal

abbrev pub invariant-first_point_of-loop-i : goal.invariant-first_point_of-loop-i
invariant-first_point_of-loop-i l = EndsAt l.program l.tasks l.end → Behind l.program l.tasks l.i l.at l.end
