use Rattle.pts_conflict.specs.Search.{Below, FindsFirst, InBlockOf, rank_of}
use Rattle.pts_conflict.proofs.blocks.least_in_blocks.Given as goal

abbrev pub invariant-loop-number : goal.invariant-loop-number
invariant-loop-number l = FindsFirst (Below (InBlockOf l.program) l.number) rank_of l.best
