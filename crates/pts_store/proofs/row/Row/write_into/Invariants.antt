use Rattle.std.proofs.Common.{◌*◌}
use Rattle.pts_store.specs.Stores.{shown}
use Rattle.pts_store.specs.Stretches.{Shows}
use Rattle.pts_store.specs.Writes.{in_row}
use Rattle.pts_store.proofs.row.Row.write_into.Given as goal

abbrev pub invariant-loop-at : goal.invariant-loop-at
invariant-loop-at l = Shows shown (in_row l.blocks) 0 (l.at * 8192) l.fn.cells l.cells
