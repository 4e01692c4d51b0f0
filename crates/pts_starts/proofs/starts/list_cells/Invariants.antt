use Rattle.std.proofs.Common.{◌≡◌, map, take}
use Rattle.pts_starts.specs.Starts as spec
use Rattle.pts_starts.proofs.starts.list_cells.Given as goal

abbrev pub invariant-loop-val : goal.invariant-loop-val
invariant-loop-val l = l.cells ≡ map (spec.value_of_val l.scope l.kind) (take l.val-index l.vals)
