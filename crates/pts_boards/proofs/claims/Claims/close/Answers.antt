use Rattle.std.proofs.Common.{◌≤◌, length, ◌∙◌, arith}
use Rattle.pts_boards.proofs.Claiming.{claims_end}
use Rattle.pts_boards.proofs.claims.Claims.close.Goals as goal

pub returns : goal.returns
returns c =
    let k = c.seat.inside.chair.known in
    let terms = c.self.inside.board.terms in
    let ends = claims_end terms k c.close.result c.close.ensures in
    let within : length k.numbers ≤ terms.parts = let a = ends.0 in omega arith in
    rw (← c.seat.view_is, ← c.self.view_is) record { each = ends.1; within = within; all = λ past. ends.2 (c.seat.invariant ∙ past) }
