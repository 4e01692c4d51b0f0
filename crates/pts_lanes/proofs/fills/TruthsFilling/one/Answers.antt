use Rattle.std.proofs.Common.{[], ◌∷◌, ap, sym, ◌∙◌, arith}
use Rattle.pts_lanes.specs.Kernels.{truth_under}
use Rattle.pts_lanes.proofs.Pairs.{pairwise-at}
use Rattle.pts_lanes.proofs.fills.TruthsFilling.one.Goals as goal

pub returns : goal.returns
returns c =
    let k = c.args.self.now in
    pairwise-at (truth_under k.op) c.args.at k.xs.now k.ys.now 0 0 (omega arith) (omega arith) ∙ ap (λ n. n ∷ []) (sym c.truth.ensures)
