use Rattle.std.proofs.Common.{refl, ◌∙◌, ap}
use Rattle.std.specs.Prelude.{◌&&◌}
use Rattle.pts_rules.specs.Known.{same_kind}
use Rattle.pts_kinds.specs.Shown.{has_kind}
use Rattle.pts_kinds.proofs.Same.{same_typing}
use Rattle.pts_kinds.proofs.kinds.typed.Goals as goal

pub returns : goal.returns
returns c = same_typing _ _ c.and.result _ refl refl
    (λ asked. c.and.ensures asked ∙ ap (λ b. b && has_kind c.all.result asked) (c.only.ensures asked) ∙ ap (λ b. same_kind asked c.args.kind && b) (c.all.ensures asked))
