use Rattle.pts_boards.specs.Alarm.{Shows}
use Rattle.pts_boards.proofs.alarm.Alarm.seen.Given as goal

abbrev pub ghosts-load : goal.ghosts-load
ghosts-load a = let me = a.seat.now in record { then = Shows a.self.now.terms.shares me.weight me.known }
