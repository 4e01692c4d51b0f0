use Rattle.std.specs.Prelude.{◌≡◌, map, take}
use Rattle.pts_kinds.specs.Entered.{local_kind}
use Rattle.pts_kinds.proofs.loops.local_kinds.Given as goal

abbrev pub invariant-loop-clause : goal.invariant-loop-clause
invariant-loop-clause l = l.kinds.items ≡ map (local_kind l.scope) (take l.clause-index l.clauses)
