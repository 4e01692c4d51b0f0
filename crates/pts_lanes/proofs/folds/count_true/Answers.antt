use Rattle.std.proofs.Common.{◌∙◌, arith}
use Rattle.pts_lanes.proofs.Counts.{counted-is}
use Rattle.pts_lanes.proofs.folds.count_true.Goals as goal

pub returns : goal.returns
returns c = c.fold_strips.ensures ∙ counted-is 0 c.args.xs.now (omega arith)
