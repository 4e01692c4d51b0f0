use Rattle.std.specs.Prelude.{◌≡◌, drop}
use Rattle.pts_kinds.specs.Entered.{entered}
use Rattle.pts_kinds.proofs.loops.enter_locals.Given as goal

abbrev pub invariant-loop-at : goal.invariant-loop-at
invariant-loop-at l = entered (drop l.at l.clauses) (drop l.at l.kinds) l.scope ≡ entered l.clauses l.kinds l.initial.scope
