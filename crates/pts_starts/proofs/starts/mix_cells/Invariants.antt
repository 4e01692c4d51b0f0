use Rattle.std.proofs.Common.{◌≡◌, map}
use Rattle.std.specs.List.{range_with_len}
use Rattle.pts_starts.specs.Starts as spec
use Rattle.pts_starts.proofs.starts.mix_cells.Given as goal

abbrev pub invariant-loop-cell : goal.invariant-loop-cell
invariant-loop-cell l = l.cells ≡ map (spec.mix_value l.seed) (range_with_len 0 l.cell)
