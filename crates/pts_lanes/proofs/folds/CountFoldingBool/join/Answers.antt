use Rattle.pts_lanes.specs.Lanes.{counted}
use Rattle.pts_types.specs.declared.operation.ScalarOp.TheVariants.{Plus}
use Rattle.pts_lanes.proofs.Groupings.{reduction-joined}
use Rattle.pts_lanes.proofs.folds.CountFoldingBool.join.Goals as goal

pub returns : goal.returns
returns c xs ys p q =
    reduction-joined Plus tt (c.u64_operations_are_associative.ensures Plus tt) (c.u64_operations_are_commutative.ensures Plus tt) counted c.args.lanes c.args.more xs ys p q
