use Rattle.std.proofs.Common.{◌≡◌, ◌+◌, ◌-◌, ◌*◌, length}
use Rattle.pts_parse.specs.Reading.{many}
use Rattle.pts_parse.specs.ExprReading as spec
use Rattle.pts_parse.proofs.Repeats.{with_front}
use Rattle.pts_parse.proofs.Rooms.{connective_rank, level_rank}
use Rattle.pts_parse.proofs.expressions.+expressions.Given as goal

abbrev pub decreases-arguments : goal.decreases-arguments
decreases-arguments l = l.room * 64 + 63

abbrev pub decreases-branch : goal.decreases-branch
decreases-branch l = l.room * 64 + 58

abbrev pub decreases-chain : goal.decreases-chain
decreases-chain l = l.room * 64 + (level_rank l.level + 4)

abbrev pub decreases-chain_part : goal.decreases-chain_part
decreases-chain_part l = l.room * 64 + (level_rank l.level + 2)

abbrev pub decreases-chain_parts : goal.decreases-chain_parts
decreases-chain_parts l = l.room * 64 + (level_rank l.level + 3)

abbrev pub decreases-compared : goal.decreases-compared
decreases-compared l = l.room * 64 + 40

abbrev pub decreases-convert : goal.decreases-convert
decreases-convert l = l.room * 64 + 7

abbrev pub decreases-element : goal.decreases-element
decreases-element l = l.room * 64 + 7

abbrev pub decreases-enclosed : goal.decreases-enclosed
decreases-enclosed l = l.room * 64 + 6

abbrev pub decreases-expr : goal.decreases-expr
decreases-expr l = l.room * 64 + 60

abbrev pub decreases-function_call : goal.decreases-function_call
decreases-function_call l = l.room * 64 + 7

abbrev pub decreases-if_else : goal.decreases-if_else
decreases-if_else l = l.room * 64 + 59

abbrev pub decreases-member : goal.decreases-member
decreases-member l = l.room * 64 + (connective_rank l.which + 1)

abbrev pub decreases-members : goal.decreases-members
decreases-members l = l.room * 64 + (connective_rank l.which + 4)

abbrev pub decreases-name_rest : goal.decreases-name_rest
decreases-name_rest l = l.room * 64 + 8

abbrev pub decreases-next_argument : goal.decreases-next_argument
decreases-next_argument l = l.room * 64 + 61

abbrev pub decreases-next_arguments : goal.decreases-next_arguments
decreases-next_arguments l = l.room * 64 + 62

abbrev pub decreases-next_member : goal.decreases-next_member
decreases-next_member l = l.room * 64 + (connective_rank l.which + 2)

abbrev pub decreases-next_members : goal.decreases-next_members
decreases-next_members l = l.room * 64 + (connective_rank l.which + 3)

abbrev pub decreases-operand : goal.decreases-operand
decreases-operand l = l.room * 64 + (level_rank l.level + 1)

abbrev pub decreases-paren : goal.decreases-paren
decreases-paren l = l.room * 64 + 7

abbrev pub decreases-primary : goal.decreases-primary
decreases-primary l = l.room * 64 + 9

abbrev pub decreases-unary : goal.decreases-unary
decreases-unary l = l.room * 64 + 10

abbrev pub invariant-chain_parts-loop-turn : goal.invariant-chain_parts-loop-turn
invariant-chain_parts-loop-turn l = with_front l.found (many (spec.sees_operator l.level) (spec.chain_part l.level (spec.operand l.level l.room (spec.inner l.room))) (length l.signs - l._turn) l.rest) ≡ many (spec.sees_operator l.level) (spec.chain_part l.level (spec.operand l.level l.room (spec.inner l.room))) (length l.signs) l.signs

abbrev pub invariant-next_members-loop-turn : goal.invariant-next_members-loop-turn
invariant-next_members-loop-turn l = with_front l.found (many (spec.sees_connective l.which) (spec.next_member l.which (spec.member l.which l.room (spec.inner l.room))) (length l.signs - l._turn) l.rest) ≡ many (spec.sees_connective l.which) (spec.next_member l.which (spec.member l.which l.room (spec.inner l.room))) (length l.signs) l.signs

abbrev pub invariant-next_arguments-loop-turn : goal.invariant-next_arguments-loop-turn
invariant-next_arguments-loop-turn l = with_front l.found (many spec.sees_comma (spec.next_argument (spec.expr l.room)) (length l.signs - l._turn) l.rest) ≡ many spec.sees_comma (spec.next_argument (spec.expr l.room)) (length l.signs) l.signs
