use Rattle.std.specs.Prelude.{◌≡◌, true, take}
use Rattle.std.specs.List.{list_all}
use Rattle.pts_rules.specs.Known.{val_fits}
use Rattle.pts_kinds.proofs.starts.vals_fit.Given as goal

abbrev pub invariant-loop-value : goal.invariant-loop-value
invariant-loop-value l = list_all (val_fits l.scope l.kind) (take l.value-index l.values) ≡ true
