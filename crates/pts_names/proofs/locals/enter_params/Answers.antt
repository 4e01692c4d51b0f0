use Rattle.std.proofs.Common.{[], ◌∷◌}
use Rattle.pts_names.proofs.Entering.{entering_one}
use Rattle.pts_names.proofs.locals.enter_params.Goals as goal

pub loop-param-preserved : goal.loop-param-preserved
loop-param-preserved c =
    entering_one (λ x. x.name ∷ []) c.args.scope.now c.loop-param.scope c.enter_local.new.scope c.args.params.now c.loop-param.param-index
    c.loop-param.again c.in_ok-again.field-0 c.param-item.result
    c.loop-param.invariant c.loop-param-test.true c.param-item.is c.in_ok-again.ensures.answer c.in_ok-again.ensures.entered
