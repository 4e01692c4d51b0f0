use Rattle.std.specs.Prelude.{◌≡◌, true, take}
use Rattle.std.specs.List.{list_all}
use Rattle.pts_rules.specs.Mistyped.{clause_right}
use Rattle.pts_kinds.proofs.loops.clauses_right.Given as goal

abbrev pub invariant-loop-clause : goal.invariant-loop-clause
invariant-loop-clause l = list_all (clause_right l.scope) (take l.clause-index l.clauses) ≡ true
