use Rattle.std.proofs.Common.{◌≡◌, ◌+◌, true}
use Rattle.pts_boards.specs.Alarm.{raises}
use Rattle.pts_boards.proofs.alarm.Alarm.raise.Given as goal

abbrev pub ghosts-add_one : goal.ghosts-add_one
ghosts-add_one a = let k = a.seat.now.known in record { then = λ _ l. l ≡ raises (k.count + 1) true k.seen }
