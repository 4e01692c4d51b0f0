use Rattle.pts_types.proofs.Grouping.{i64-associative}
use Rattle.pts_types.proofs.laws.i64_operations_are_associative.Goals as goal

pub returns : goal.returns
returns c = i64-associative
