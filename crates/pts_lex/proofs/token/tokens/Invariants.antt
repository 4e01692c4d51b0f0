use Rattle.std.proofs.Common.{length, ◌-◌}
use Rattle.pts_lex.proofs.TokenLists.{IsRead}
use Rattle.pts_lex.proofs.token.tokens.Given as goal

abbrev pub invariant-loop-token : goal.invariant-loop-token
invariant-loop-token l = IsRead l.bytes l.found.items l.at

abbrev pub decreases-loop-token : goal.decreases-loop-token
decreases-loop-token l = length l.bytes - l.at
