use Rattle.std.proofs.Common.{◌*◌}
use Rattle.pts_store.specs.Stores.{cells_with}
use Rattle.pts_store.specs.Stretches.{Shows}
use Rattle.pts_store.specs.Writes.{written}
use Rattle.pts_store.proofs.writes.Writes.write_into.Given as goal

abbrev pub invariant-loop-at : goal.invariant-loop-at
invariant-loop-at l = Shows cells_with (written l.bands) 0 (l.at * 64) l.fn.arrays l.arrays
