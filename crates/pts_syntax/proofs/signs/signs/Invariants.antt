use Rattle.pts_syntax.proofs.TokenPlaces.{SaidTo}
use Rattle.pts_syntax.proofs.signs.signs.Given as goal

abbrev pub invariant-loop-token : goal.invariant-loop-token
invariant-loop-token l = SaidTo l.bytes l.tokens l.token-index l.found.items
