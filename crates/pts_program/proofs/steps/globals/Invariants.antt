use Rattle.std.specs.Prelude.{◌≡◌, fold, take}
use Rattle.pts_code.specs.Functions.{scope_of}
use Rattle.pts_program.specs.Globals.{with_array}
use Rattle.pts_program.proofs.steps.globals.Given as goal

abbrev pub invariant-loop-array : goal.invariant-loop-array
invariant-loop-array l = l.names ≡ fold with_array (scope_of l.functions) (take l.array-index l.arrays)
