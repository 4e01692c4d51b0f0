use Rattle.std.proofs.Common.{◌≡◌, drop, fold}
use Rattle.pts_code.specs.Functions.{with_signature}
use Rattle.pts_code.proofs.codes.enter_functions.Given as goal

abbrev pub invariant-loop-function : goal.invariant-loop-function
invariant-loop-function l = fold with_signature l.scope (drop l.function-index l.functions) ≡ fold with_signature l.initial.scope l.functions
