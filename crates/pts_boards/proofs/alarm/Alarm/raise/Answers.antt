use Rattle.std.proofs.Common.{ap, ◌∙◌}
use Rattle.pts_boards.specs.Seats.{AlarmSeatState}
use Rattle.pts_boards.proofs.Raising.{raise_move}
use Rattle.pts_boards.proofs.alarm.Alarm.raise.Goals as goal

pub add_one-requires-clause-moves : goal.add_one-requires-clause-moves
add_one-requires-clause-moves c =
    let me = c.seat.inside.chair in
    let first = c.seat.invariant ∙ ap (λ (v : AlarmSeatState). v.raised) c.seat.view_is ∙ c.requires.first in
    raise_move c.self.inside.board.terms me.weight me.known first c.self.invariant
