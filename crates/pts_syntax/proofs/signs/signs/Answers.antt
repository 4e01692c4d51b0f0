use Rattle.pts_syntax.proofs.TokenPlaces.{said_one}
use Rattle.pts_syntax.proofs.signs.signs.Goals as goal

pub loop-token-preserved : goal.loop-token-preserved
loop-token-preserved c =
    let h = said_one c.args.bytes.now c.args.tokens.now c.loop-token.token-index c.loop-token.found.items _ c.in_ok-sign.field-0 c.loop-token.invariant c.loop-token-test.true (c.in_ok-sign.ensures) in
    rw c.in_ok-push.ensures.items h
