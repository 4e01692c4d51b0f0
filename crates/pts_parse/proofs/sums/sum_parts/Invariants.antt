use Rattle.std.proofs.Common.{◌≡◌, ◌-◌, length}
use Rattle.pts_parse.specs.Reading.{many}
use Rattle.pts_parse.specs.SumReading.{goes_on, sum_part}
use Rattle.pts_parse.proofs.Repeats.{with_front}
use Rattle.pts_parse.proofs.sums.sum_parts.Given as goal

abbrev pub invariant-loop-turn : goal.invariant-loop-turn
invariant-loop-turn l = with_front l.found (many goes_on sum_part (length l.signs - l._turn) l.rest) ≡ many goes_on sum_part (length l.signs) l.signs
