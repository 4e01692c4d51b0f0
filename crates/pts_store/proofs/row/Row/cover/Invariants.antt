use Rattle.std.proofs.Common.{◌≡◌, ◌≤◌, ℕ, [], ◌/◌, nat_lt, if◌then◌else◌, get_or, length}
use Rattle.pts_store.specs.Writes.{in_row, over}
use Rattle.pts_store.specs.Levels.{FitsBlock}
use Rattle.pts_store.proofs.row.Row.cover.Given as goal

abbrev pub invariant-loop-at : goal.invariant-loop-at
invariant-loop-at l = record {
  few : length l.blocks ≤ length l.self-inside.blocks.items;
  rest : (k : ℕ) → l.at ≤ k → FitsBlock (get_or l.blocks k []) (get_or l.self-inside.blocks.items k []);
  place : (k : ℕ) → in_row l.self-inside.blocks.items k ≡ (if nat_lt (k / 8192) l.at then over (in_row l.fn.self k) (in_row l.blocks k) else in_row l.fn.self k);
}
