use Rattle.std.proofs.Common.{ap, ◌∙◌}
use Rattle.pts_boards.specs.Seats.{ClaimSeatState}
use Rattle.pts_boards.proofs.Claiming.{claims_move}
use Rattle.pts_boards.proofs.claims.Claims.claim.Goals as goal

pub add_one-number-requires-clause-moves : goal.add_one-number-requires-clause-moves
add_one-number-requires-clause-moves c =
    let me = c.seat.inside.chair in
    let left = c.seat.invariant ∙ ap (λ (v : ClaimSeatState). v.past) c.seat.view_is ∙ c.requires.left in
    claims_move c.self.inside.board.terms me.weight me.known left c.self.invariant.0 c.self.invariant.1
