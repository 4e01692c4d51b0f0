use Rattle.std.proofs.Common.{◌<◌, ◌≤◌, ℕ, [], get_or, length}
use Rattle.pts_store.specs.Levels.{Same, FitsBlock}
use Rattle.pts_store.specs.Writes.{in_row}
use Rattle.pts_store.proofs.row.Row.reserve.Given as goal

abbrev pub invariant-loop-at : goal.invariant-loop-at
invariant-loop-at l = record {
  few : length l.blocks ≤ length l.self-inside.blocks.items;
  each : (k : ℕ) → k < l.at → FitsBlock (get_or l.blocks k []) (get_or l.self-inside.blocks.items k []);
  same : Same (in_row l.fn.self) (in_row l.self-inside.blocks.items);
}
