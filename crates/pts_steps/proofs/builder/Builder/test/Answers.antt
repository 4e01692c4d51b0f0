use Rattle.std.proofs.lemmas.Result.{on_ok_weaker}
use Rattle.pts_steps.proofs.Statements.{tested}
use Rattle.pts_steps.proofs.builder.Builder.test.Goals as goal

pub returns : goal.returns
returns c =
    on_ok_weaker c.push.result
    (λ e x space. tested x space c.args.self.now c.compute.new.self c.push.new.self c.args.test.now c.in_ok-code.code c.in_ok-code.ensures.reads e c.in_ok-code.ensures.code)
    c.push.ensures
