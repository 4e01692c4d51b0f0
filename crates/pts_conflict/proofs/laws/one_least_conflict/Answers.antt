use Rattle.pts_conflict.proofs.OneConflict.{none_least, one_conflict}
use Rattle.pts_conflict.proofs.laws.one_least_conflict.Goals as goal

pub returns-clause-one : goal.returns-clause-one
returns-clause-one c lists x y h = one_conflict lists h x y

pub returns-clause-none : goal.returns-clause-none
returns-clause-none c = none_least
