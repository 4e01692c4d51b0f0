use Rattle.std.proofs.Common.{Some, refl, ap, ◌∙◌}
use Rattle.std.proofs.Math.Facts.{to_z-of_z}
use Rattle.pts_rules.specs.Known.{holds}
use Rattle.pts_kinds.proofs.Same.{same_typing}
use Rattle.pts_kinds.proofs.kinds.number_typing.Goals as goal

pub returns : goal.returns
returns c = same_typing _ _ c.holding.result _ (ap Some (to_z-of_z c.ranges.number)) refl (λ asked. c.holding.ensures asked ∙ ap (holds asked) (to_z-of_z c.ranges.number))
