use Rattle.std.proofs.Common.{Err, ap, subst, sym, ◌∙◌}
use Rattle.pts_run.specs.declared.words.Command.TheVariants as commands
use Rattle.pts_run.specs.Acceptance.{IsRunnable}
use Rattle.pts_run.proofs.Endings.{run_ends, refused}
use Rattle.pts_run.proofs.answer.run_script.Goals as goal

pub returns-in-Ok-clause-ends : goal.returns-in-Ok-clause-ends
returns-in-Ok-clause-ends g c = λ bytes reads.
    rw c.run_finished.ensures
    (run_ends c.args.pool bytes c.args.script.now c.in-Ok.cleared c.run_program-ran.result _ _ reads c.in-Ok.ensures.accepted c.run_program-ran.ensures.whole c.run_program-ran.ensures.part)

pub returns-in-Err-clause-ends : goal.returns-in-Err-clause-ends
returns-in-Err-clause-ends g c = λ bytes reads.
    c.reject.ensures.ends (commands.Run c.args.pool) bytes (λ reason is.
    refused (commands.Run c.args.pool) bytes reason (c.args.script.now, reads, c.accept_to_run.ensures.rejected reason (c.in-Err.is ∙ ap Err is)))
