use Rattle.std.proofs.Common.{◌+◌, take, sym, ◌∙◌, subst}
use Rattle.pts_steps.specs.declared.builder.Builder.{Builder}
use Rattle.pts_steps.specs.Steps.{AreStepsOf}
use Rattle.pts_steps.specs.Texts.{AreAllSteps}
use Rattle.pts_steps.proofs.LoopSteps.{texts_turn}
use Rattle.pts_steps.proofs.loops.all_steps.Goals as goal

pub loop-text-preserved : goal.loop-text-preserved
loop-text-preserved c =
    let names = c.args.builder.now.globals in
    let at = c.loop-text.text-index in
    let text = c.text-item.result in
    let made = subst (λ (b : Builder). AreStepsOf b.globals text c.in_ok-steps.steps) c.loop-text.invariant.0 c.in_ok-steps.ensures.steps in (
      c.in_ok-steps.ensures.same ∙ c.loop-text.invariant.0,
      subst (AreAllSteps names (take (at + 1) c.args.texts.now)) (sym c.in_ok-push.ensures.ok)
          (texts_turn names c.args.texts.now at text c.loop-text.all c.in_ok-steps.steps c.loop-text-test.true c.text-item.is c.loop-text.invariant.1 made),
    )
