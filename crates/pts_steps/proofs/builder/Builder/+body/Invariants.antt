use Rattle.std.specs.Prelude.{drop}
use Rattle.pts_steps.proofs.Statements.{Reaches}
use Rattle.pts_steps.proofs.builder.Builder.«+body».Given as goal

abbrev pub invariant-body-loop-stmt : goal.invariant-body-loop-stmt
invariant-body-loop-stmt l = Reaches l.x l.initial.self l.self l.body (drop l.stmt-index l.body)
