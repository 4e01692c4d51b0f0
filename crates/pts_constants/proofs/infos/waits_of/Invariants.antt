use Rattle.pts_constants.specs.Blocks as spec
use Rattle.pts_constants.proofs.Counts.{Counted}
use Rattle.pts_constants.proofs.infos.waits_of.Given as goal

abbrev pub invariant-loop-stmt : goal.invariant-loop-stmt
invariant-loop-stmt l = Counted spec.is_wait l.stmts l.stmt-index l.waits
