use Rattle.std.proofs.Common.{refl, sym, ◌∙◌}
use Rattle.pts_run.proofs.Acceptances.{later_rejects, runnable}
use Rattle.pts_run.proofs.accept.accept_to_run.Goals as goal

pub returns-in-Some-clause-rejected : goal.returns-in-Some-clause-rejected
returns-in-Some-clause-rejected c = λ reason e.
    later_rejects c.args.script.now c.in_ok-program.program c.in-Some.item reason _ _ refl refl c.in_ok-program.ensures.program.0 c.in_ok-program.ensures.program.1 (sym c.later.ensures ∙ c.in-Some.is) e

pub returns-in-None-clause-accepted : goal.returns-in-None-clause-accepted
returns-in-None-clause-accepted c =
    runnable c.args.script.now c.accept_program.result c.in_ok-program.program c.in_ok-program.ensures.program.1 (sym c.later.ensures ∙ c.in-None.is) c.accept_program.ensures.accepted
