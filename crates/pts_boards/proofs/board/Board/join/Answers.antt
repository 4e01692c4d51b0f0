use Rattle.std.proofs.Common.{ap, ◌∙◌, arith}
use Rattle.pts_boards.specs.Seats.{ChairState}
use Rattle.pts_boards.proofs.Rule.{joins}
use Rattle.pts_boards.proofs.board.Board.join.Goals as goal

pub join_seat-requires : goal.join_seat-requires
join_seat-requires g c =
    let seat = c.seat.inside.seat in
    let other = c.other.inside.seat in
    let shared = c.args.self.now.table.shared in
    let here = ap (λ (v : ChairState g.row.K.Denot). v.board) c.seat.view_is ∙ c.requires.board in
    let there = ap (λ (v : ChairState g.row.K.Denot). v.board) c.other.view_is ∙ c.requires.other in
    (here, there, c.other.invariant.0, omega arith, joins g.K.Knowledge.sort g.K.Knowledge.lawful shared.key seat.id seat.me.0 other.id other.me.0 c.seat.invariant.1)
