use Rattle.pts_rules.specs.Parts.{lets}
use Rattle.pts_names.proofs.Entering.{Entering}
use Rattle.pts_names.proofs.locals.«+enter_lets».Given as goal

abbrev pub invariant-enter_lets-loop-stmt : goal.invariant-enter_lets-loop-stmt
invariant-enter_lets-loop-stmt l = Entering lets l.initial.scope l.scope l.stmts l.stmt-index l.again
