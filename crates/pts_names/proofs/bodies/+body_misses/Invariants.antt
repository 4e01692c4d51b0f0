use Rattle.pts_names.proofs.Walks.{Walked}
use Rattle.pts_names.proofs.bodies.«+body_misses».Given as goal

abbrev pub invariant-stmts_miss-loop-stmt : goal.invariant-stmts_miss-loop-stmt
invariant-stmts_miss-loop-stmt l = Walked l.initial.scope l.scope l.stmts l.stmt-index
