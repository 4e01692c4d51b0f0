use Rattle.std.proofs.Common.{◌≡◌, ◌≤◌, ℕ, ◌/◌, [], nat_lt, if◌then◌else◌, get_or, length}
use Rattle.pts_store.specs.Levels.{FitsBand}
use Rattle.pts_store.specs.Writes.{written, over}
use Rattle.pts_store.proofs.writes.Writes.cover.Given as goal

abbrev pub invariant-loop-at : goal.invariant-loop-at
invariant-loop-at l = record {
  few : length l.bands ≤ length l.self-inside.bands.items;
  rest : (k : ℕ) → l.at ≤ k → FitsBand (get_or l.bands k []) (get_or l.self-inside.bands.items k []);
  cell : (array index : ℕ) → written l.self-inside.bands.items array index ≡ (if nat_lt (array / 64) l.at then over (written l.fn.self array index) (written l.bands array index) else written l.fn.self array index);
}
