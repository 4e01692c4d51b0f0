use Rattle.std.proofs.Common.{◌≡◌, ℕ, get_or, vec_len}
use Rattle.pts_store.proofs.padding.pad.Given as goal

abbrev pub invariant-loop-at : goal.invariant-loop-at
invariant-loop-at g l = record {
  count : vec_len l.parts ≡ l._at;
  kept : (k : ℕ) → get_or l.parts.items k g.T.Part.empty ≡ get_or l.fn.parts.items k g.T.Part.empty;
}
