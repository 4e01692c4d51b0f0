use Rattle.pts_constants.specs.Blocks as spec
use Rattle.pts_constants.proofs.Counts.{Counted}
use Rattle.pts_constants.proofs.infos.runs_of.Given as goal

abbrev pub invariant-loop-stmt : goal.invariant-loop-stmt
invariant-loop-stmt l = Counted spec.is_run l.stmts l.stmt-index l.runs
