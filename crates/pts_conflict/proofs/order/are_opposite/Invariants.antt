use Rattle.std.proofs.Common.{◌+◌, ◌-◌, length}
use Rattle.pts_conflict.proofs.Opposites.{Left}
use Rattle.pts_conflict.proofs.order.are_opposite.Given as goal

abbrev pub invariant-loop-i : goal.invariant-loop-i
invariant-loop-i l = Left l.first l.second l.i l.j

abbrev pub decreases-loop-i : goal.decreases-loop-i
decreases-loop-i l = (length l.first - l.i) + (length l.second - l.j)
