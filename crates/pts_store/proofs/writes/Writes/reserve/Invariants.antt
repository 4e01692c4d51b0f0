use Rattle.std.proofs.Common.{◌<◌, ◌≤◌, ℕ, [], get_or, length}
use Rattle.pts_store.specs.Levels.{FitsBand}
use Rattle.pts_store.specs.Writes.{SameWrites}
use Rattle.pts_store.proofs.writes.Writes.reserve.Given as goal

abbrev pub invariant-loop-at : goal.invariant-loop-at
invariant-loop-at l = record {
  few : length l.bands ≤ length l.self-inside.bands.items;
  each : (k : ℕ) → k < l.at → FitsBand (get_or l.bands k []) (get_or l.self-inside.bands.items k []);
  same : SameWrites l.fn.self l.self-inside.bands.items;
}
