use Rattle.std.proofs.Common.{take}
use Rattle.pts_conflict.specs.Search.{FindsFirst, OneOf, rank_of}
use Rattle.pts_conflict.proofs.search.least_beside.Given as goal

abbrev pub invariant-loop-b : goal.invariant-loop-b
invariant-loop-b g l = FindsFirst (OneOf (g.S.Pairs.conflicts l.pairs l.a) (take l.b-index l.seconds)) rank_of l.best
