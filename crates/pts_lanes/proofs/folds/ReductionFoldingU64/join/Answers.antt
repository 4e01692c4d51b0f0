use Rattle.pts_lanes.specs.Kernels.{number_under}
use Rattle.pts_lanes.proofs.Groupings.{reduction-joined}
use Rattle.pts_lanes.proofs.folds.ReductionFoldingU64.join.Goals as goal

pub returns : goal.returns
returns c xs ys p q =
    let op = c.args.self.now.op in
    rw c.numbers.ensures (reduction-joined op c.requires (c.u64_operations_are_associative.ensures op c.requires) (c.u64_operations_are_commutative.ensures op c.requires) (number_under op) c.args.lanes c.args.more xs ys p q)
