use Rattle.std.proofs.Common.{take}
use Rattle.pts_conflict.specs.Search.{FindsFirst, OneOf, rank_of}
use Rattle.pts_conflict.proofs.search.least_across.Given as goal

abbrev pub invariant-loop-a : goal.invariant-loop-a
invariant-loop-a g l = FindsFirst (OneOf (λ a. OneOf (g.S.Pairs.conflicts l.pairs a) l.seconds) (take l.a-index l.firsts)) rank_of l.best
