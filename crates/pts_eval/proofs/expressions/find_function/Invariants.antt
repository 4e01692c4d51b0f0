use Rattle.std.proofs.Common.{◌≡◌, take}
use Rattle.pts_code.specs.Functions.{environment_of}
use Rattle.pts_code.specs.Values.{bound_to}
use Rattle.pts_eval.specs.Expressions.{bound_of}
use Rattle.pts_eval.proofs.expressions.find_function.Given as goal

abbrev pub invariant-loop-number : goal.invariant-loop-number
invariant-loop-number l = bound_of l.functions l.latest ≡ bound_to (environment_of (take l.number l.functions)) l.name
