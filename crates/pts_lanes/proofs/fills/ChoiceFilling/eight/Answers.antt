use Rattle.std.proofs.Common.{◌-◌, length, take, drop, ap, ◌∙◌, arith}
use lib.Lanes.{chunk, sel_l}
use Rattle.pts_lanes.proofs.Pairs.{length-chosen, loaded, chosen-chunk}
use Rattle.std.proofs.lemmas.Simd.{length-chunk}
use Rattle.pts_lanes.specs.Kernels.{chosen}
use Rattle.pts_lanes.proofs.Places.{eight-stored}
use Rattle.pts_lanes.proofs.Truths.{mask-read}
use Rattle.pts_lanes.proofs.fills.ChoiceFilling.eight.Goals as goal

pub returns : goal.returns
returns c =
    let k = c.args.self.now in
    let at = c.args.at in
    let xs = chunk 0 8 (take (length k.xs.now - at) (drop at k.xs.now)) in
    let ys = chunk 0 8 (take (length k.ys.now - at) (drop at k.ys.now)) in
    eight-stored c.args.out.now _ (chosen k.mask.now k.xs.now k.ys.now) at c.requires.room
    (ap (λ ms. sel_l ms xs ys) (mask-read c.as_numbers.result (chunk at 8 k.mask.now) c.as_numbers.ensures (length-chunk at 8 k.mask.now (omega arith)))
    ∙ ap (λ l. sel_l (chunk at 8 k.mask.now) l ys) (loaded at k.xs.now)
    ∙ ap (sel_l (chunk at 8 k.mask.now) (chunk at 8 k.xs.now)) (loaded at k.ys.now)
    ∙ chosen-chunk at 8 k.mask.now k.xs.now k.ys.now (omega arith) (omega arith))
    (omega (arith, length-chosen k.mask.now k.xs.now k.ys.now (length k.ys.now) (omega arith) (omega arith) (omega arith)))
