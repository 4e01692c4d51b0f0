use Rattle.std.proofs.Common.{◌≡◌, ◌-◌, length, drop, ap, ◌∙◌}
use Rattle.pts_code.specs.Functions.{body_scope}
use Rattle.pts_code.proofs.Scopes.{left_again}
use Rattle.pts_code.proofs.codes.compile_body.Goals as goal

pub returns-clause-same : goal.returns-clause-same
returns-clause-same c =
    let scope = c.args.scope.now in
    let params = c.args.function.now.params in
    let entered : c.enter_params.new.scope ≡ body_scope scope params = c.in_ok-enter_params.ensures ∙ ap (body_scope scope) c.as_slice.ensures in
    c.leave.ensures ∙ (λ i. drop (length (entered i) - c.len-len.ensures i) (entered i)) ∙ left_again scope params
