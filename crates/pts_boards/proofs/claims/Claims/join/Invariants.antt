use Rattle.pts_boards.specs.Claims.{ShowsOnce}
use Rattle.pts_boards.proofs.claims.Claims.join.Given as goal

abbrev pub ghosts-load : goal.ghosts-load
ghosts-load a = record { then = λ _. ShowsOnce a.seat.now.known }
