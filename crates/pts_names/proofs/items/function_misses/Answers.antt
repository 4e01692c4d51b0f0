use Rattle.std.proofs.Common.{◌≡◌, sym, ap, ◌∙◌}
use Rattle.pts_rules.specs.Parts.{param_names, expr_names}
use Rattle.pts_names.specs.Entered.{misses, entered}
use Rattle.pts_names.proofs.Entering.{left, over_names, misses_without}
use Rattle.pts_names.proofs.items.function_misses.Goals as goal

pub returns : goal.returns
returns c =
    let before = c.args.scope.now in
    let inside = c.enter_params.new.scope in
    let x = c.args.x.now in
    let entered_here : inside ≡ entered (param_names x.params) before =
    c.in_ok-_again.ensures.entered ∙ ap (λ xs. entered (param_names xs) before) c.as_slice.ensures in
    record {
      answer = c.expr_misses-missing.ensures ∙ ap (λ s. misses s (expr_names x.body)) entered_here ∙ sym (misses_without (param_names x.params) before (expr_names x.body));
      same = left before inside c.leave.new.self c.len-mark.result (over_names (param_names x.params) before inside entered_here) c.len-mark.ensures c.leave.ensures;
    }
