use Rattle.std.proofs.Common.{rules}
use Rattle.pts_syntax.specs.Syntax.{AllSay}
use Rattle.pts_syntax.proofs.TokenPlaces.{tokens_lie}
use Rattle.pts_syntax.proofs.Answering.{unexpected_within, nesting_within, unexpected_at, nesting_at}
use Rattle.pts_syntax.proofs.reading.parse_tokens.Goals as goal

pub signs-requires : goal.signs-requires
signs-requires c = tokens_lie c.args.bytes.now c.args.tokens.now c.requires

pub place-requires : goal.place-requires
place-requires c =
    let said : AllSay c.args.bytes.now c.args.tokens.now c.deref.result.now = search rules in
    unexpected_within c.args.bytes.now c.args.tokens.now c.deref.result.now c.in-Err-Unexpected.left said (c.parse_signs.ensures.unexpected c.in-Err-Unexpected.left (search rules))

pub returns-in-Err-Unexpected-clause-fault : goal.returns-in-Err-Unexpected-clause-fault
returns-in-Err-Unexpected-clause-fault c =
    let said : AllSay c.args.bytes.now c.args.tokens.now c.deref.result.now = search rules in
    unexpected_at c.args.bytes.now c.args.tokens.now c.deref.result.now c.in-Err-Unexpected.left c.place.result c.requires said
    (c.parse_signs.ensures.unexpected c.in-Err-Unexpected.left (search rules)) c.place.ensures

pub place-requires-in-Err-Nesting : goal.place-requires-in-Err-Nesting
place-requires-in-Err-Nesting c =
    let said : AllSay c.args.bytes.now c.args.tokens.now c.deref.result.now = search rules in
    nesting_within c.args.bytes.now c.args.tokens.now c.deref.result.now c.in-Err-Nesting.left said (c.parse_signs.ensures.nesting c.in-Err-Nesting.left (search rules))

pub returns-in-Err-Nesting-clause-fault : goal.returns-in-Err-Nesting-clause-fault
returns-in-Err-Nesting-clause-fault c =
    let said : AllSay c.args.bytes.now c.args.tokens.now c.deref.result.now = search rules in
    nesting_at c.args.bytes.now c.args.tokens.now c.deref.result.now c.in-Err-Nesting.left c.place-in-Err-Nesting.result c.requires said
    (c.parse_signs.ensures.nesting c.in-Err-Nesting.left (search rules)) c.place-in-Err-Nesting.ensures
