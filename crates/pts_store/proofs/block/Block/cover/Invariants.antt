use Rattle.std.proofs.Common.{◌≡◌, ◌≤◌, ℕ, [], ◌/◌, nat_lt, if◌then◌else◌, get_or, length}
use Rattle.pts_store.specs.Writes.{in_block, over}
use Rattle.pts_store.specs.Levels.{FitsPage}
use Rattle.pts_store.proofs.block.Block.cover.Given as goal

abbrev pub invariant-loop-at : goal.invariant-loop-at
invariant-loop-at l = record {
  few : length l.pages ≤ length l.self-inside.pages.items;
  rest : (k : ℕ) → l.at ≤ k → FitsPage (get_or l.pages k []) (get_or l.self-inside.pages.items k []);
  place : (k : ℕ) → in_block l.self-inside.pages.items k ≡ (if nat_lt (k / 128) l.at then over (in_block l.fn.self k) (in_block l.pages k) else in_block l.fn.self k);
}
