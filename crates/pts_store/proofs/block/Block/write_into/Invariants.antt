use Rattle.std.proofs.Common.{◌*◌}
use Rattle.pts_store.specs.Stores.{shown}
use Rattle.pts_store.specs.Stretches.{Shows}
use Rattle.pts_store.specs.Writes.{in_block}
use Rattle.pts_store.proofs.block.Block.write_into.Given as goal

abbrev pub invariant-loop-at : goal.invariant-loop-at
invariant-loop-at l = Shows shown (in_block l.pages) l.base (l.at * 128) l.fn.cells l.cells
