use Rattle.pts_types.proofs.Grouping.{u64-commutative}
use Rattle.pts_types.proofs.laws.u64_operations_are_commutative.Goals as goal

pub returns : goal.returns
returns c = u64-commutative
