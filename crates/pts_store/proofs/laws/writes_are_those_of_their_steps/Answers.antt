use Rattle.pts_store.proofs.Together.{no_steps, one_step_more, steps_of_both}
use Rattle.pts_store.proofs.laws.writes_are_those_of_their_steps.Goals as goal

pub returns-clause-none : goal.returns-clause-none
returns-clause-none c = no_steps

pub returns-clause-set : goal.returns-clause-set
returns-clause-set c = one_step_more

pub returns-clause-merged : goal.returns-clause-merged
returns-clause-merged c = steps_of_both
