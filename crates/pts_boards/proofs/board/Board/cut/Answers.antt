use Rattle.std.proofs.Common.{◌<◌, ◌≤◌, ap, ◌∙◌, arith}
use Rattle.pts_boards.specs.Seats.{ChairState}
use Rattle.pts_boards.proofs.Rule.{splits}
use Rattle.pts_boards.proofs.board.Board.cut.Goals as goal

pub split_seat-seat-requires : goal.split_seat-seat-requires
split_seat-seat-requires g c =
    let seat = c.seat.inside.seat in
    let amount = g.A.Amount.amount in
    let some : 1 ≤ amount = rw c.requires.amount c.requires.some in
    let rest : amount < seat.me.0.weight = rw (c.requires.amount, ap (λ (v : ChairState g.row.K.Denot). v.weight) c.seat.view_is) c.requires.rest in
    let board = ap (λ (v : ChairState g.row.K.Denot). v.board) c.seat.view_is ∙ c.requires.board in
    (board, omega arith, splits g.K.Knowledge.sort g.K.Knowledge.lawful c.args.self.now.table.shared.key seat.id seat.me.0 amount some rest)
