use mir.Syntax.{w64, w128}
use mir.Val.{SFits}
use Rattle.std.proofs.Common.{◌*ℤ◌, ◌∙◌, rules, arith}
use Rattle.std.proofs.lemmas.Int.{ints, to_z-of_z}
use Rattle.pts_bounds.proofs.Chained.{wide, level_left, level_right}
use Rattle.pts_bounds.proofs.affine.product.Goals as goal

pub returns-then-x-eq0 : goal.returns-then-x-eq0
returns-then-x-eq0 c =
    let f : SFits w128 c.wide_product.result = search rules in
    let g : SFits w128 c.wide_product-offset.result = search rules in
    let xo : SFits w64 c.args.x.offset = search rules in
    let yo : SFits w64 c.args.y.offset = search rules in
    let yf : SFits w64 c.args.y.factor = search rules in
    level_left (wide c.wide_product.result) (wide c.wide_product-offset.result)
    c.args.x.factor c.args.x.offset c.args.y.factor c.args.y.offset _ c.kept.ensures (omega (arith, ints))
    (to_z-of_z w128 c.wide_product.result f ∙ c.wide_product.ensures ∙ (λ i. to_z-of_z w64 c.args.x.offset xo i *ℤ to_z-of_z w64 c.args.y.factor yf i))
    (to_z-of_z w128 c.wide_product-offset.result g ∙ c.wide_product-offset.ensures ∙ (λ i. to_z-of_z w64 c.args.x.offset xo i *ℤ to_z-of_z w64 c.args.y.offset yo i))

pub returns-then-y-eq0 : goal.returns-then-y-eq0
returns-then-y-eq0 c =
    let f : SFits w128 c.wide_product-then-y-eq0.result = search rules in
    let g : SFits w128 c.wide_product-offset.result = search rules in
    let xo : SFits w64 c.args.x.offset = search rules in
    let yo : SFits w64 c.args.y.offset = search rules in
    let xf : SFits w64 c.args.x.factor = search rules in
    level_right (wide c.wide_product-then-y-eq0.result) (wide c.wide_product-offset.result)
    c.args.x.factor c.args.x.offset c.args.y.factor c.args.y.offset _ c.kept-then-y-eq0.ensures (omega (arith, ints))
    (to_z-of_z w128 c.wide_product-then-y-eq0.result f ∙ c.wide_product-then-y-eq0.ensures ∙ (λ i. to_z-of_z w64 c.args.x.factor xf i *ℤ to_z-of_z w64 c.args.y.offset yo i))
    (to_z-of_z w128 c.wide_product-offset.result g ∙ c.wide_product-offset.ensures ∙ (λ i. to_z-of_z w64 c.args.x.offset xo i *ℤ to_z-of_z w64 c.args.y.offset yo i))
