use Rattle.std.proofs.lemmas.Result.{on_ok_weaker}
use Rattle.pts_steps.proofs.Statements.{noted_let}
use Rattle.pts_steps.proofs.builder.Builder.bind.Goals as goal

pub returns : goal.returns
returns c =
    on_ok_weaker c.enter.result
    (λ e x space.
    noted_let x space c.args.self.now c.compute.new.self c.push.new.self c.args.value.now c.in_ok-code.code c.enter.new.self c.args.name.now c.kind_of_let-kind.result c.len-number.result
    c.kind_of_let-kind.ensures c.len-number.ensures c.in_ok-code.ensures.reads c.in_ok-push.ensures e c.in_ok-code.ensures.code)
    c.enter.ensures
