use Rattle.pts_run.proofs.Acceptances.{accepted, rejects, rejects_run}
use Rattle.pts_run.proofs.accept.accept_program.Goals as goal

pub returns-clause-accepted : goal.returns-clause-accepted
returns-clause-accepted c = accepted c.args.script.now c.args.program c.requires.sound c.requires.made c.clear_program.result c.clear_program.ensures.cleared

pub returns-clause-rejected : goal.returns-clause-rejected
returns-clause-rejected c = λ reason e. rejects c.args.script.now c.args.program c.requires.sound c.requires.made reason (c.clear_program.ensures.rejected reason e)

pub returns-clause-not_run : goal.returns-clause-not_run
returns-clause-not_run c = λ reason e none. rejects_run c.args.script.now c.args.program c.requires.sound c.requires.made reason (c.clear_program.ensures.rejected reason e) none
