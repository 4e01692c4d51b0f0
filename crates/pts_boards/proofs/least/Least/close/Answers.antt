use Rattle.pts_boards.proofs.Lowering.{least_end}
use Rattle.pts_boards.proofs.least.Least.close.Goals as goal

pub returns : goal.returns
returns c =
    let ends = least_end c.self.inside.board.terms c.seat.inside.chair.known c.close.result c.close.ensures in
    rw (← c.seat.view_is) record { least = ends.0; told = ends.1; given = ends.2 }
