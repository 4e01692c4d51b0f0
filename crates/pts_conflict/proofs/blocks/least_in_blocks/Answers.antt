use Rattle.std.proofs.Common.{◌≡◌, length, subst, ap, ◌∙◌, arith}
use Rattle.pts_conflict.specs.Search.{Below, FindsFirst, InBlockOf, rank_of}
use Rattle.pts_conflict.proofs.Firsts.{below_more}
use Rattle.pts_conflict.proofs.blocks.least_in_blocks.Goals as goal

pub loop-number-preserved : goal.loop-number-preserved
loop-number-preserved c =
    below_more rank_of (InBlockOf c.args.program.now) c.loop-number.number c.loop-number.best c.least_in.result c.lower-best.result c.loop-number.invariant c.least_in.ensures c.lower-best.ensures

pub returns : goal.returns
returns c =
    let none = c.loop-number-test.false in
    let most = c.loop-number.auto.number-end in
    let end : c.loop-number.number ≡ length c.lowered_blocks-number-end.result.now = omega (arith, none, most) in
    subst (λ n. FindsFirst (Below (InBlockOf c.args.program.now) n) rank_of c.loop-number.best) (end ∙ ap length c.lowered_blocks-number-end.ensures) c.loop-number.invariant
