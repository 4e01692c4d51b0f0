use Rattle.std.proofs.Common.{◌≡◌, false, take}
use Rattle.std.specs.List.{list_any}
use Rattle.pts_rules.specs.Steps.{identity_wrong}
use Rattle.pts_limits.proofs.steps.has_wrong_identity.Given as goal

abbrev pub invariant-loop-clause : goal.invariant-loop-clause
invariant-loop-clause l = list_any identity_wrong (take l.clause-index l.each.clauses) ≡ false
