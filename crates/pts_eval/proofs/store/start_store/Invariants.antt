use Rattle.std.specs.Prelude.{◌≡◌, take}
use Rattle.pts_eval.specs.Cells.{start_cells}
use Rattle.pts_eval.proofs.store.start_store.Given as goal

abbrev pub invariant-loop-array : goal.invariant-loop-array
invariant-loop-array l = l.store ≡ start_cells (take l.array-index l.program.arrays)
