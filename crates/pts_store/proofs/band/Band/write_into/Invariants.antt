use Rattle.pts_store.specs.Stores.{cells_with}
use Rattle.pts_store.specs.Stretches.{Shows}
use Rattle.pts_store.specs.Writes.{in_band}
use Rattle.pts_store.proofs.band.Band.write_into.Given as goal

abbrev pub invariant-loop-at : goal.invariant-loop-at
invariant-loop-at l = Shows cells_with (in_band l.rows) l.base l.at l.fn.arrays l.arrays
