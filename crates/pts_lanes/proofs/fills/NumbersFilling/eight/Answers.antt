use Rattle.std.proofs.Common.{length, ◌∙◌, arith}
use Rattle.pts_lanes.specs.Kernels.{number_under, pairwise}
use Rattle.pts_lanes.proofs.Pairs.{length-pairwise, loaded-pairs}
use Rattle.pts_lanes.proofs.Places.{eight-stored}
use Rattle.pts_lanes.proofs.fills.NumbersFilling.eight.Goals as goal

pub returns : goal.returns
returns c =
    let k = c.args.self.now in
    let f = number_under k.op in
    let e = c.numbers.ensures ∙ loaded-pairs f c.args.at k.xs.now k.ys.now in
    eight-stored c.args.out.now c.numbers.result (pairwise f k.xs.now k.ys.now) c.args.at c.requires.room e (omega (arith, length-pairwise f k.xs.now k.ys.now (length k.ys.now) (omega arith) (omega arith)))
