use Rattle.pts_conflict.specs.Search.{Below, FindsFirst, InCallOf, rank_of}
use Rattle.pts_conflict.proofs.calls.least_in_calls.Given as goal

abbrev pub invariant-loop-number : goal.invariant-loop-number
invariant-loop-number l = FindsFirst (Below (InCallOf l.program) l.number) rank_of l.best
