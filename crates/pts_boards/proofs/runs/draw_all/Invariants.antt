use Rattle.std.proofs.Common.{◌≡◌, false}
use Rattle.pts_boards.proofs.runs.draw_all.Given as goal

abbrev pub invariant-loop : goal.invariant-loop
invariant-loop l = record {
  board : l.seat.board ≡ l.initial.seat.board;
  weight : l.seat.weight ≡ l.initial.seat.weight;
  left : l.seat.past ≡ false;
  same : l.list.items ≡ l.seat.drawn;
}
