use Rattle.std.proofs.Common.{◌≡◌, take}
use Rattle.pts_sums.proofs.run.Run.gather.Given as goal

abbrev pub invariant-loop-at : goal.invariant-loop-at
invariant-loop-at g l = l.items.items ≡ take l.at (g.T.Terms.items l.terms)
