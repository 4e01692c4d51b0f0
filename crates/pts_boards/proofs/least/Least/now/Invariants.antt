use Rattle.pts_boards.specs.Least.{Tells}
use Rattle.pts_boards.proofs.least.Least.now.Given as goal

abbrev pub ghosts-load : goal.ghosts-load
ghosts-load a = record { then = Tells a.seat.now.known }
