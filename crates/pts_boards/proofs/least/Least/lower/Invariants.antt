use Rattle.std.proofs.Common.{◌≡◌, [], ◌∷◌, ◌++◌}
use Rattle.pts_boards.specs.Least.{lowered}
use Rattle.pts_boards.proofs.least.Least.lower.Given as goal

abbrev pub ghosts-lower : goal.ghosts-lower
ghosts-lower a = let k = a.seat.now.known in record { then = λ _ l. l ≡ lowered (k.numbers ++ a.x ∷ []) k.least }
