use Rattle.std.proofs.Common.{ap, ◌∙◌}
use Rattle.pts_rules.specs.Parts.{uses}
use Rattle.pts_names.specs.Entered.{entered}
use Rattle.pts_names.proofs.Walks.{walked_one}
use Rattle.pts_names.proofs.bodies.«+body_misses».Goals as goal

pub stmts_miss-loop-stmt-preserved : goal.stmts_miss-loop-stmt-preserved
stmts_miss-loop-stmt-preserved t c =
    let x = c.stmt-item.result in
    walked_one c.args.scope.now c.loop-stmt.scope c.enter_let.new.scope c.args.stmts.now c.loop-stmt.stmt-index x c.in_ok-stmt_misses.field-0
    c.loop-stmt.invariant c.loop-stmt-test.true c.stmt-item.is c.in_ok-stmt_misses.ensures.answer c.if-branch.false
    (c.in_ok-enter_let.ensures ∙ ap (entered (uses x).bound) c.in_ok-stmt_misses.ensures.same)
