use Rattle.pts_store.proofs.Kept.{accepting_keeps_kinds, putting_keeps_kinds}
use Rattle.pts_store.proofs.laws.writing_keeps_the_kinds.Goals as goal

pub returns-clause-accepted : goal.returns-clause-accepted
returns-clause-accepted c = accepting_keeps_kinds

pub returns-clause-put : goal.returns-clause-put
returns-clause-put c = putting_keeps_kinds
