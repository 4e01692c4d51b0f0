use Rattle.pts_program.proofs.MatchedCalls.{calls_counted, calls_match}
use Rattle.pts_program.proofs.promises.each_call_has_its_text.Goals as goal

pub returns-clause-texts : goal.returns-clause-texts
returns-clause-texts c lists h = (calls_counted lists h).0

pub returns-clause-forms : goal.returns-clause-forms
returns-clause-forms c lists h = (calls_counted lists h).1

pub returns-clause-each : goal.returns-clause-each
returns-clause-each c = calls_match
