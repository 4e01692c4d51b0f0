use Rattle.pts_boards.specs.Claims.{Draws}
use Rattle.pts_boards.proofs.claims.Claims.claim.Given as goal

abbrev pub ghosts-add_one : goal.ghosts-add_one
ghosts-add_one a = record { then = Draws a.self.now.terms.parts a.seat.now.known }
