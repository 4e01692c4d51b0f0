use Rattle.std.proofs.Common.{◌≡◌, ◌≤◌, []}
use Rattle.std.specs.Prelude.{All, vec_capacity}
use Rattle.std.specs.Vec.{vec_len}
use Rattle.pts_workers.proofs.runner.make_lists.Given as goal

abbrev pub invariant-loop-at : goal.invariant-loop-at
invariant-loop-at l = record {
  count : vec_len l.lists ≡ l._at;
  room : All (λ list. (list.items ≡ []) × (l.chunks ≤ vec_capacity list)) l.lists.items;
}
