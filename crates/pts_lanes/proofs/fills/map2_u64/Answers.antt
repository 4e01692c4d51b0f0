use Rattle.std.proofs.Common.{length, arith}
use Rattle.pts_lanes.specs.Kernels.{number_under}
use Rattle.pts_lanes.proofs.Pairs.{length-pairwise}
use Rattle.pts_lanes.proofs.fills.map2_u64.Goals as goal

pub fill_strips-requires-clause-answers : goal.fill_strips-requires-clause-answers
fill_strips-requires-clause-answers c =
    length-pairwise (number_under c.args.op) c.args.xs.now c.args.ys.now (length c.args.out.now) (omega arith) (omega arith)
