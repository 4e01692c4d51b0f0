use Rattle.std.proofs.Common.{◌≡◌, ◌+◌, length}
use Rattle.pts_boards.proofs.runs.+fn-lower_by-join+arg2+fn-lower_by-join+arg3+lower_by.Given as goal

abbrev pub decreases-join+arg2 : goal.decreases-join+arg2
decreases-join+arg2 g l = l.few

abbrev pub decreases-join+arg3 : goal.decreases-join+arg3
decreases-join+arg3 g l = l.rest

abbrev pub decreases-lower_by : goal.decreases-lower_by
decreases-lower_by g l = l.workers

abbrev pub invariant-loop-x : goal.invariant-loop-x
invariant-loop-x g l = record {
  board : l.seat.board ≡ l.initial.seat.board;
  weight : l.seat.weight ≡ l.initial.seat.weight;
  count : length l.seat.lowered ≡ length l.initial.seat.lowered + l.x-index;
}
