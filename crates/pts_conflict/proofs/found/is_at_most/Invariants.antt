use Rattle.std.proofs.Common.{◌≡◌, drop}
use Rattle.pts_conflict.specs.Conflicts.{is_at_most}
use Rattle.pts_conflict.proofs.found.is_at_most.Given as goal

abbrev pub invariant-loop-i : goal.invariant-loop-i
invariant-loop-i l = is_at_most (drop l.i l.xs) (drop l.i l.ys) ≡ is_at_most l.xs l.ys
