use Rattle.std.proofs.Common.{◌≡◌, ◌-◌, length}
use Rattle.pts_parse.specs.Reading.{many}
use Rattle.pts_parse.specs.ExprReading.{sees_comma}
use Rattle.pts_parse.specs.ScriptReading as spec
use Rattle.pts_parse.proofs.Repeats.{with_front}
use Rattle.pts_parse.proofs.script.next_params.Given as goal

abbrev pub invariant-loop-turn : goal.invariant-loop-turn
invariant-loop-turn l = with_front l.found (many sees_comma spec.next_param (length l.signs - l._turn) l.rest) ≡ many sees_comma spec.next_param (length l.signs) l.signs
