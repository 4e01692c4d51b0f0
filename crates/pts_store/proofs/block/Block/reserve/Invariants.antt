use Rattle.std.proofs.Common.{◌<◌, ◌≤◌, ℕ, [], get_or, length}
use Rattle.pts_store.specs.Levels.{Same, FitsPage}
use Rattle.pts_store.specs.Writes.{in_block}
use Rattle.pts_store.proofs.block.Block.reserve.Given as goal

abbrev pub invariant-loop-at : goal.invariant-loop-at
invariant-loop-at l = record {
  few : length l.pages ≤ length l.self-inside.pages.items;
  each : (k : ℕ) → k < l.at → FitsPage (get_or l.pages k []) (get_or l.self-inside.pages.items k []);
  same : Same (in_block l.fn.self) (in_block l.self-inside.pages.items);
}
