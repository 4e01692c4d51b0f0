use Rattle.std.proofs.Common.{ap, ◌∙◌, subst}
use Rattle.pts_code.specs.Codes.{functions_of}
use Rattle.pts_code.specs.Compiling.{Holds}
use Rattle.pts_code.specs.Functions.{environment_of}
use Rattle.pts_code.proofs.Scopes.{holds_functions}
use Rattle.pts_code.proofs.codes.Codes.codes.Goals as goal

pub returns : goal.returns
returns c =
    λ sight spots is.
    subst (λ fs. Holds sight spots (environment_of fs)) c.self.view_is
    (holds_functions sight spots c.self.inside.functions.items (is ∙ ap functions_of c.as_slice.ensures.value ∙ c.self.invariant.same) c.self.invariant.few)
