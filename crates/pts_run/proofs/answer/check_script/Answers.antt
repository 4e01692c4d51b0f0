use Rattle.std.proofs.Common.{Err, ap, ◌∙◌}
use Rattle.pts_run.specs.declared.words.Command.TheVariants as commands
use Rattle.pts_run.proofs.Endings.{check_ends, refused}
use Rattle.pts_run.proofs.answer.check_script.Goals as goal

pub returns-in-Ok-clause-ends : goal.returns-in-Ok-clause-ends
returns-in-Ok-clause-ends g c = λ bytes reads.
    rw c.finished.ensures (check_ends bytes c.args.script.now c.in-Ok._cleared c.write_accepted.result _ _ reads c.in-Ok.ensures.accepted c.write_accepted.ensures.writes)

pub returns-in-Err-clause-ends : goal.returns-in-Err-clause-ends
returns-in-Err-clause-ends g c = λ bytes reads.
    c.reject.ensures.ends commands.Check bytes (λ reason is.
    refused commands.Check bytes reason (c.args.script.now, reads, c.accept.ensures.rejected reason (c.in-Err.is ∙ ap Err is)))
