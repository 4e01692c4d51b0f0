use Rattle.std.proofs.Common.{◌≤◌, arith}
use Rattle.pts_boards.specs.Numbers.{none_lower}
use Rattle.pts_boards.proofs.Lowering.{lower_move}
use Rattle.pts_boards.proofs.least.Least.lower.Goals as goal

pub lower-requires-clause-moves : goal.lower-requires-clause-moves
lower-requires-clause-moves c =
    let me = c.seat.inside.chair in
    let most : c.args.x ≤ none_lower = omega arith in
    lower_move c.self.inside.board.terms me.weight me.known c.args.x most
