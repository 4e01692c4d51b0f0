use Rattle.std.proofs.Common.{◌≡◌, sym, ap, ◌∙◌, subst, IfOk}
use Rattle.std.specs.Prelude.{◌||◌}
use Rattle.pts_names.specs.Entered.{misses, body_names}
use Rattle.pts_names.proofs.LoopNames.{of_loop}
use Rattle.pts_names.proofs.loops.loop_misses.Goals as goal

pub returns-then-head_misses-clause-answer : goal.returns-then-head_misses-clause-answer
returns-then-head_misses-clause-answer c =
    let scope = c.args.scope.now in
    let x = c.args.x.now in
    sym (of_loop scope x ∙ ap (λ b. b || misses scope (body_names x)) (sym c.head_misses.ensures ∙ c.if-head_misses.true))

pub returns-clause-answer : goal.returns-clause-answer
returns-clause-answer c =
    let scope = c.args.scope.now in
    let x = c.args.x.now in
    subst (λ z. IfOk c.loop_body_misses.result (λ b. b ≡ z))
    (sym (of_loop scope x ∙ ap (λ b. b || misses scope (body_names x)) (sym c.head_misses.ensures ∙ c.if-head_misses.false)))
    c.loop_body_misses.ensures.answer
