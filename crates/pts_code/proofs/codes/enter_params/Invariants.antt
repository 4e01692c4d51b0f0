use Rattle.std.proofs.Common.{◌≡◌, drop}
use Rattle.pts_code.specs.Functions.{body_scope}
use Rattle.pts_code.proofs.codes.enter_params.Given as goal

abbrev pub invariant-loop-param : goal.invariant-loop-param
invariant-loop-param l = body_scope l.scope (drop l.param-index l.params) ≡ body_scope l.initial.scope l.params
