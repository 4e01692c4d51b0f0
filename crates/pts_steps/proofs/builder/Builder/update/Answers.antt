use Rattle.std.proofs.lemmas.Result.{on_ok_weaker}
use Rattle.pts_steps.proofs.Statements.{updated}
use Rattle.pts_steps.proofs.builder.Builder.update.Goals as goal

pub returns : goal.returns
returns c =
    on_ok_weaker c.push.result
    (λ e x space.
    updated x space c.args.self.now c.value_for.new.self c.push.new.self c.args.value.now c.in_ok-code.code c.args.place.now c.args.op c.in_ok-code.ensures.reads e c.in_ok-code.ensures.code)
    c.push.ensures
