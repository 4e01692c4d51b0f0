use Rattle.std.proofs.Common.{◌≡◌, ◌-◌, length}
use Rattle.pts_parse.specs.Reading.{many}
use Rattle.pts_parse.specs.ScriptReading as spec
use Rattle.pts_parse.proofs.Repeats.{with_front}
use Rattle.pts_parse.proofs.script.item_list.Given as goal

abbrev pub invariant-loop-turn : goal.invariant-loop-turn
invariant-loop-turn l = with_front l.found (many spec.sees_item (spec.item l.room) (length l.signs - l._turn) l.rest) ≡ many spec.sees_item (spec.item l.room) (length l.signs) l.signs
