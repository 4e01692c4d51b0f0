use Rattle.std.proofs.Common.{◌≡◌, ◌<◌, ◌≤◌, false, length}
use Rattle.std.specs.Prelude.{All, vec_capacity}
use Rattle.std.specs.List.Sorted.{IsStrictlyIncreasing}
use Rattle.pts_workers.proofs.worker.draw.Given as goal

abbrev pub invariant-loop-turn : goal.invariant-loop-turn
invariant-loop-turn g l = record {
  board : l.worker.seat.board ≡ l.claims.id;
  weight : l.worker.seat.weight ≡ 1;
  left : l.worker.seat.past ≡ false;
  going : l.worker.is_cut_short ≡ l.initial.worker.is_cut_short;
  room : l.claims.parts ≤ vec_capacity l.worker.numbers;
  listed : l.worker.numbers.items ≡ l.worker.seat.drawn;
  count : length l.worker.numbers.items ≡ l._turn;
  ascends : IsStrictlyIncreasing l.worker.numbers.items;
  below : All (λ x. x < l.claims.parts) l.worker.numbers.items;
  made : g.W.Work.made l.work l.worker.numbers.items l.worker.state;
}
