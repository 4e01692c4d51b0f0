use Rattle.std.proofs.Common.{◌≡◌, ◌++◌, take}
use Rattle.pts_run.specs.Text.{spaced}
use Rattle.pts_run.proofs.lines.push_spaced.Given as goal

abbrev pub invariant-loop-cell : goal.invariant-loop-cell
invariant-loop-cell l = l.text.items ≡ l.fn.text.items ++ spaced (take l.cell-index l.cells)
