use Rattle.pts_boards.proofs.Lowering.{now_look}
use Rattle.pts_boards.proofs.least.Least.now.Goals as goal

pub load-requires-clause-moves : goal.load-requires-clause-moves
load-requires-clause-moves c = let me = c.seat.inside.chair in now_look c.self.inside.board.terms me.weight me.known
