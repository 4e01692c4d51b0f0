use Rattle.std.proofs.Common.{◌≡◌, ℕ, nat_lt, if◌then◌else◌}
use Rattle.pts_store.specs.Writes.{in_page, over}
use Rattle.pts_store.specs.Levels.{FitsPage}
use Rattle.pts_store.proofs.page.Page.cover.Given as goal

abbrev pub invariant-loop-at : goal.invariant-loop-at
invariant-loop-at l = record {
  fits : FitsPage l.slots l.self-inside.slots.items;
  place : (k : ℕ) → in_page l.self-inside.slots.items k ≡ (if nat_lt k l.at then over (in_page l.fn.self k) (in_page l.slots k) else in_page l.fn.self k);
}
