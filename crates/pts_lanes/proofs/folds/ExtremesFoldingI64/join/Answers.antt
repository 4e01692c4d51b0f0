use Rattle.pts_lanes.proofs.Ends.{enclose-joined}
use Rattle.pts_lanes.proofs.folds.ExtremesFoldingI64.join.Goals as goal

pub returns : goal.returns
returns c xs ys p q = enclose-joined c.args.lanes c.args.more xs ys p q
