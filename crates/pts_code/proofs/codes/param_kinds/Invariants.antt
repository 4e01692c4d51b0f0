use Rattle.std.proofs.Common.{◌≡◌, take}
use Rattle.pts_code.specs.Functions.{kinds_of}
use Rattle.pts_code.proofs.codes.param_kinds.Given as goal

abbrev pub invariant-loop-param : goal.invariant-loop-param
invariant-loop-param l = l.kinds ≡ kinds_of (take l.param-index l.params)
