use Rattle.std.proofs.Common.{length, arith}
use Rattle.pts_lanes.proofs.Pairs.{length-chosen}
use Rattle.pts_lanes.proofs.fills.select_u64.Goals as goal

pub fill_strips-requires-clause-answers : goal.fill_strips-requires-clause-answers
fill_strips-requires-clause-answers c =
    length-chosen c.args.mask.now c.args.xs.now c.args.ys.now (length c.args.out.now) (omega arith) (omega arith) (omega arith)
