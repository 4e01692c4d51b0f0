use Rattle.std.proofs.Common.{◌<◌, ◌≤◌, ℕ, [], get_or, length}
use Rattle.pts_store.specs.Levels.{SameBand, FitsRow}
use Rattle.pts_store.proofs.band.Band.reserve.Given as goal

abbrev pub invariant-loop-at : goal.invariant-loop-at
invariant-loop-at l = record {
  few : length l.rows ≤ length l.self-inside.rows.items;
  each : (k : ℕ) → k < l.at → FitsRow (get_or l.rows k []) (get_or l.self-inside.rows.items k []);
  same : SameBand l.fn.self l.self-inside.rows.items;
}
