use Rattle.pts_store.proofs.Kept.{accepting_keeps_shape, putting_keeps_shape}
use Rattle.pts_store.proofs.laws.writing_keeps_the_shape.Goals as goal

pub returns-clause-accepted : goal.returns-clause-accepted
returns-clause-accepted c = accepting_keeps_shape

pub returns-clause-put : goal.returns-clause-put
returns-clause-put c = putting_keeps_shape
