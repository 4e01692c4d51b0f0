use Rattle.std.proofs.Common.{◌≡◌, ◌+◌, drop, false}
use Rattle.pts_lex.specs.Scanning.{blank_len}
use Rattle.pts_lex.proofs.token.blank_len.Given as goal

abbrev pub invariant-loop-at : goal.invariant-loop-at
invariant-loop-at l = l.at + blank_len l.is_comment (drop l.at l.bytes) ≡ blank_len false l.bytes
