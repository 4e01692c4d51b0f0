use Rattle.std.proofs.Common.{◌≡◌, ◌<◌, ◌^◌, drop}
use Rattle.pts_lex.specs.Lexical.{number_from, number_of}
use Rattle.pts_lex.proofs.token.number_of.Given as goal

abbrev pub invariant-loop-digit : goal.invariant-loop-digit
invariant-loop-digit l = (l.number < 2 ^ 64) × (number_from l.number (drop l.digit-index l.digits) ≡ number_of l.digits)
