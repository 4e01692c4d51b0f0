use Rattle.std.proofs.Common.{ap, ◌∙◌}
use Rattle.std.proofs.lemmas.Result.{on_ok_weaker}
use Rattle.pts_steps.specs.Steps.{view_number}
use Rattle.pts_steps.proofs.Statements.{given}
use Rattle.pts_steps.proofs.builder.Builder.give.Goals as goal

pub returns : goal.returns
returns c =
    on_ok_weaker c.push.result
    (λ e space.
    given c.args.x.now space c.args.self.now c.compute.new.self c.push.new.self c.args.value.now c.in_ok-code.code c.args.view.now c.view_number-clause.result c.view_kind-kind.result
    (c.view_number-clause.ensures ∙ ap (λ cs. view_number cs c.args.view.now) c.as_slice.ensures) c.view_kind-kind.ensures c.in_ok-code.ensures.reads e c.in_ok-code.ensures.code)
    c.push.ensures
