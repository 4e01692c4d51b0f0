use Rattle.std.proofs.Common.{◌≡◌, drop}
use Rattle.pts_code.specs.Values.{bound_to}
use Rattle.pts_eval.specs.Expressions.{local_names}
use Rattle.pts_eval.proofs.expressions.find_local.Given as goal

abbrev pub invariant-loop-local : goal.invariant-loop-local
invariant-loop-local l = bound_to (local_names l.locals) l.name ≡ bound_to (local_names (drop l.local-index l.locals)) l.name
