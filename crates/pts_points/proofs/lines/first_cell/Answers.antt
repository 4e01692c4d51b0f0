use Rattle.std.proofs.Common.{rules, ◌+ℤ◌, ◌*ℤ◌, ◌∙◌, arith, w64}
use Rattle.std.proofs.lemmas.Int.{to_z-of_z, ints}
use Rattle.pts_points.proofs.Clamping.{wide, clamp_at}
use Rattle.pts_points.proofs.lines.first_cell.Goals as goal

pub returns : goal.returns
returns c =
    to_z-of_z w64 c.clamp.result (search (rules, c.clamp.type_inv))
    ∙ clamp_at (wide (wide c.product.result +ℤ wide c.from.result)) (c.args.factor *ℤ c.args.first +ℤ c.args.offset) _ c.clamp.ensures (grind (arith, ints))
