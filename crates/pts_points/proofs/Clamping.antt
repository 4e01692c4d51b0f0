-- Cells as lines keep them.
use mir.Syntax.{w128}
use Rattle.std.proofs.Common.{to_z, of_z, ◌≡◌, ap, ◌∙◌}
use Rattle.std.specs.Prelude.{ℤ}
use Rattle.pts_points.specs.Widths.{clamp}

-- a number as the code holds it
abbrev pub wide : ℤ → ℤ
wide z = to_z w128 (of_z w128 z)

pub clamp_at : (a x result : ℤ) → result ≡ clamp a → a ≡ x → result ≡ clamp x
clamp_at a x result e p = e ∙ ap clamp p
