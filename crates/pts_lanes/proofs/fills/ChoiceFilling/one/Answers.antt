use Rattle.std.proofs.Common.{[], ◌∷◌, cond, slice_index_or, ap, ◌∙◌, arith}
use Rattle.pts_lanes.proofs.Pairs.{chosen-at}
use Rattle.pts_lanes.proofs.fills.ChoiceFilling.one.Goals as goal

pub returns-then-self-at : goal.returns-then-self-at
returns-then-self-at c =
    let k = c.args.self.now in
    chosen-at c.args.at k.mask.now k.xs.now k.ys.now 0 0 (omega arith) (omega arith) (omega arith)
    ∙ ap (λ b. cond b (slice_index_or k.xs.now c.args.at 0) (slice_index_or k.ys.now c.args.at 0) ∷ []) c.if-self-at.true

pub returns-else-self-at : goal.returns-else-self-at
returns-else-self-at c =
    let k = c.args.self.now in
    chosen-at c.args.at k.mask.now k.xs.now k.ys.now 0 0 (omega arith) (omega arith) (omega arith)
    ∙ ap (λ b. cond b (slice_index_or k.xs.now c.args.at 0) (slice_index_or k.ys.now c.args.at 0) ∷ []) c.if-self-at.false
