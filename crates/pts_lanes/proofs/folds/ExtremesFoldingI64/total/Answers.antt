use Rattle.std.proofs.Common.{rules, w64, SFits}
use Rattle.std.proofs.lemmas.Int.{to_z-of_z}
use Rattle.pts_lanes.proofs.Ends.{widened-by-lanes}
use Rattle.pts_lanes.proofs.folds.ExtremesFoldingI64.total.Goals as goal

pub returns : goal.returns
returns c items p =
    let low = c.fold_rest-least.result in
    let high = c.fold_rest-greatest.result in
    let l : SFits w64 low.0 = search rules in
    let h : SFits w64 high.1 = search rules in
    rw (to_z-of_z w64 low.0 l, to_z-of_z w64 high.1 h) (widened-by-lanes c.args.ends c.args.lanes items p low high c.fold_rest-least.ensures c.fold_rest-greatest.ensures)
