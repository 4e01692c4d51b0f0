use Rattle.pts_conflict.proofs.Opposites.{Left}
use Rattle.pts_conflict.proofs.order.common_tests.Given as goal

abbrev pub invariant-loop-i : goal.invariant-loop-i
invariant-loop-i l = Left l.first l.second l.i l.i
