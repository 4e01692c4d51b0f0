use Rattle.std.proofs.Common.{◌≡◌, map, take}
use Rattle.pts_program.proofs.standing.param_kinds.Given as goal

abbrev pub invariant-loop-param : goal.invariant-loop-param
invariant-loop-param l = l.kinds ≡ map (λ p. p.kind) (take l.param-index l.function.params)
