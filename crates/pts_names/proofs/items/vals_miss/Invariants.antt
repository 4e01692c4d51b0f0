use Rattle.pts_rules.specs.Parts.{val_names}
use Rattle.pts_names.proofs.Missing.{Looked}
use Rattle.pts_names.proofs.items.vals_miss.Given as goal

abbrev pub invariant-loop-val : goal.invariant-loop-val
invariant-loop-val l = Looked val_names l.scope l.vals l.val-index
