use Rattle.std.specs.Prelude.{◌≡◌, ◌++◌, drop, map}
use Rattle.pts_rules.specs.Scopes.{param_entry}
use Rattle.pts_kinds.proofs.items.enter_params.Given as goal

abbrev pub invariant-loop-at : goal.invariant-loop-at
invariant-loop-at l = l.scope ≡ map param_entry (drop l.at l.params) ++ l.initial.scope
