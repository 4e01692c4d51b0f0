use Rattle.std.proofs.Common.{◌≡◌, ◌≤◌, ℕ, [], nat_lt, if◌then◌else◌, get_or, length}
use Rattle.pts_store.specs.Levels.{FitsRow}
use Rattle.pts_store.specs.Writes.{in_band, over}
use Rattle.pts_store.proofs.band.Band.cover.Given as goal

abbrev pub invariant-loop-at : goal.invariant-loop-at
invariant-loop-at l = record {
  few : length l.rows ≤ length l.self-inside.rows.items;
  rest : (k : ℕ) → l.at ≤ k → FitsRow (get_or l.rows k []) (get_or l.self-inside.rows.items k []);
  cell : (k index : ℕ) → in_band l.self-inside.rows.items k index ≡ (if nat_lt k l.at then over (in_band l.fn.self k index) (in_band l.rows k index) else in_band l.fn.self k index);
}
