use Rattle.std.proofs.Common.{◌≡◌, ◌+◌, ◌*◌, ◌-◌, length}
use Rattle.pts_parse.specs.Reading.{many}
use Rattle.pts_parse.specs.LoopReading as spec
use Rattle.pts_parse.proofs.Repeats.{with_front}
use Rattle.pts_parse.proofs.loops.+statements.Given as goal

abbrev pub decreases-braced : goal.decreases-braced
decreases-braced l = l.room * 8 + 1

abbrev pub decreases-body_statement : goal.decreases-body_statement
decreases-body_statement l = l.room * 8 + 5

abbrev pub decreases-body_statements : goal.decreases-body_statements
decreases-body_statements l = l.room * 8 + 6

abbrev pub decreases-else_part : goal.decreases-else_part
decreases-else_part l = l.room * 8 + 2

abbrev pub decreases-if_statement : goal.decreases-if_statement
decreases-if_statement l = l.room * 8 + 4

abbrev pub decreases-vec_off : goal.decreases-vec_off
decreases-vec_off l = l.room * 8 + 3

abbrev pub invariant-body_statements-loop-turn : goal.invariant-body_statements-loop-turn
invariant-body_statements-loop-turn l =
    with_front l.found (many spec.sees_bstmt (spec.bstmt_of l.room (spec.inner_bstmts l.room)) (length l.signs - l._turn) l.rest)
    ≡ many spec.sees_bstmt (spec.bstmt_of l.room (spec.inner_bstmts l.room)) (length l.signs) l.signs
