use Rattle.std.proofs.Common.{drop}
use Rattle.std.proofs.lemmas.List.{take_rest}
use Rattle.pts_lex.specs.Lexical.{IsFirstToken}
use Rattle.pts_lex.proofs.TokenLists.{token_read}
use Rattle.pts_lex.proofs.token.tokens.Goals as goal

pub loop-token-preserved : goal.loop-token-preserved
loop-token-preserved c =
    let t = c.in-Ok-Some.token in
    let first : IsFirstToken (drop c.loop-token.at c.args.bytes.now) t = rw (take_rest c.args.bytes.now c.loop-token.at) at (rw c.in-Ok-Some.field-0-is at c.in-Ok-Some.ensures.token) in
    rw c.in_ok-push-in-Ok-Some.ensures.items (token_read c.args.bytes.now c.loop-token.found.items c.loop-token.at t c.loop-token.invariant first)
