use Rattle.std.proofs.Common.{sym, ◌∙◌, arith}
use Rattle.std.specs.Prelude.{neg_ℤ, pos, ◌-ℤ◌}
use Rattle.std.proofs.lemmas.Int.{ints}
use Rattle.pts_rules.specs.Indices as spec
use Rattle.pts_bounds.specs.Affines.{affine}
use Rattle.pts_bounds.proofs.Chained.{wide, kept_at}
use Rattle.pts_bounds.proofs.affine.minus_affine.Goals as goal

pub returns-in-None-Some : goal.returns-in-None-Some
returns-in-None-Some c =
    kept_at (wide (pos 0 -ℤ wide c.from.result)) (wide (pos 0 -ℤ wide c.from-in-None-Some.result))
    (neg_ℤ c.in-None-Some.x.factor) (neg_ℤ c.in-None-Some.x.offset) _ c.kept-in-None-Some.ensures (omega (arith, ints)) (omega (arith, ints))
    ∙ (λ i. spec.minus_affine (sym c.in-None-Some.is-0 i) (affine (sym c.in-None-Some.is-1 i)))
