use Rattle.pts_steps.proofs.LoopSteps.{as_many_texts, steps_at}
use Rattle.pts_steps.proofs.laws.each_text_has_its_steps.Goals as goal

pub returns-clause-count : goal.returns-clause-count
returns-clause-count c = as_many_texts

pub returns-clause-each : goal.returns-clause-each
returns-clause-each c = steps_at
