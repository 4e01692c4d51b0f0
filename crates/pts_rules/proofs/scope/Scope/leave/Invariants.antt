use Rattle.std.proofs.Common.{◌≡◌, drop}
use Rattle.pts_rules.proofs.scope.Scope.leave.Given as goal

abbrev pub invariant-loop-turn : goal.invariant-loop-turn
invariant-loop-turn l = l.self ≡ drop l._turn l.initial.self
