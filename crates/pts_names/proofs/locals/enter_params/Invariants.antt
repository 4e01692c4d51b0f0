use Rattle.std.proofs.Common.{[], ◌∷◌}
use Rattle.pts_names.proofs.Entering.{Entering}
use Rattle.pts_names.proofs.locals.enter_params.Given as goal

abbrev pub invariant-loop-param : goal.invariant-loop-param
invariant-loop-param l = Entering (λ x. x.name ∷ []) l.initial.scope l.scope l.params l.param-index l.again
