use Rattle.pts_kinds.proofs.Braces.{Walked}
use Rattle.pts_kinds.proofs.bodies.«+body».Given as goal

abbrev pub invariant-braces_right-loop-statement : goal.invariant-braces_right-loop-statement
invariant-braces_right-loop-statement l = Walked l.initial.scope l.statements l.statement-index l.right l.scope
