use Rattle.pts_boards.proofs.Raising.{seen_look}
use Rattle.pts_boards.proofs.alarm.Alarm.seen.Goals as goal

pub load-requires-clause-moves : goal.load-requires-clause-moves
load-requires-clause-moves c = let me = c.seat.inside.chair in seen_look c.self.inside.board.terms me.weight me.known
