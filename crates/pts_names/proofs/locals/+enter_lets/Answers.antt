use Rattle.pts_rules.specs.Parts.{lets}
use Rattle.pts_names.proofs.Entering.{entering_one}
use Rattle.pts_names.proofs.locals.«+enter_lets».Goals as goal

pub enter_lets-loop-stmt-preserved : goal.enter_lets-loop-stmt-preserved
enter_lets-loop-stmt-preserved t c =
    entering_one lets c.args.scope.now c.loop-stmt.scope c.enter_lets_of.new.scope c.args.stmts.now c.loop-stmt.stmt-index
    c.loop-stmt.again c.in_ok-again.field-0 c.stmt-item.result
    c.loop-stmt.invariant c.loop-stmt-test.true c.stmt-item.is c.in_ok-again.ensures.answer c.in_ok-again.ensures.entered
