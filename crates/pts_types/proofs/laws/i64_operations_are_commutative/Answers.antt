use Rattle.pts_types.proofs.Grouping.{i64-commutative}
use Rattle.pts_types.proofs.laws.i64_operations_are_commutative.Goals as goal

pub returns : goal.returns
returns c = i64-commutative
