use Rattle.std.proofs.Common.{rules}
use Rattle.pts_parse.specs.ExprReading as spec
use Rattle.pts_parse.proofs.Joining.{chain_read, members_read}
use Rattle.pts_parse.proofs.expressions.+expressions.Goals as goal

pub chain-returns : goal.chain-returns
chain-returns t c =
    chain_read c.args.level (spec.operand c.args.level c.args.room (spec.inner c.args.room)) c.args.signs.now c.in_ok-first.rest.now c.in_ok-parts.rest.now
    c.in_ok-first.first c.in_ok-chained.field-0 c.in_ok-parts.parts (search rules) (search rules) (search rules)

pub members-returns : goal.members-returns
members-returns t c =
    members_read c.args.which (spec.member c.args.which c.args.room (spec.inner c.args.room)) c.args.signs.now c.in_ok-first.rest.now c.in_ok-more.rest.now
    c.in_ok-first.first c.in_ok-joined.field-0 c.in_ok-more.more (search rules) (search rules) (search rules)
