use Rattle.pts_types.proofs.Grouping.{u64-associative}
use Rattle.pts_types.proofs.laws.u64_operations_are_associative.Goals as goal

pub returns : goal.returns
returns c = u64-associative
