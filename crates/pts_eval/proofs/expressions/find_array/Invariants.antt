use Rattle.std.proofs.Common.{◌≡◌, drop}
use Rattle.pts_code.specs.Values.{bound_to}
use Rattle.pts_eval.specs.Expressions.{array_names}
use Rattle.pts_eval.proofs.expressions.find_array.Given as goal

abbrev pub invariant-loop-array : goal.invariant-loop-array
invariant-loop-array l = bound_to (array_names l.arrays) l.name ≡ bound_to (array_names (drop l.array-index l.arrays)) l.name
