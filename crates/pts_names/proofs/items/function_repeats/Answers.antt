use Rattle.std.proofs.Common.{[], ◌∷◌, ap, ◌∙◌}
use Rattle.pts_rules.specs.Parts.{param_names}
use Rattle.pts_names.specs.Entered.{repeats, entered}
use Rattle.pts_names.proofs.Entering.{left, over_names, both_repeat, both_enter}
use Rattle.pts_names.proofs.items.function_repeats.Goals as goal

pub returns : goal.returns
returns c =
    let before = c.args.scope.now in
    let inside = c.enter_local.new.scope in
    let x = c.args.x.now in
    let params = param_names x.params in
    let name = x.name ∷ [] in
    record {
      answer = both_repeat before inside name params c.in_ok-again.again c.in_ok-again-2.field-0 c.in_ok-again.ensures.answer c.in_ok-again.ensures.entered
          (c.in_ok-again-2.ensures.answer ∙ ap (λ xs. repeats inside (param_names xs)) c.as_slice.ensures);
      same = left before c.enter_params.new.scope c.leave.new.self c.len-mark.result
          (over_names (x.name ∷ params) before c.enter_params.new.scope
          (both_enter before inside c.enter_params.new.scope name params c.in_ok-again.ensures.entered
          (c.in_ok-again-2.ensures.entered ∙ ap (λ xs. entered (param_names xs) inside) c.as_slice.ensures)))
          c.len-mark.ensures c.leave.ensures;
    }
