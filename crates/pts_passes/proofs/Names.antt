-- The names of arrays and functions.
use Rattle.std.proofs.Common.{◌≡◌, List, [], ◌∷◌, fold, refl, ap, ◌∙◌}
use Rattle.pts_code.specs.declared.function.FunctionInfo.{FunctionInfo}
use Rattle.pts_code.specs.Compiling.{scope_of_names}
use Rattle.pts_code.specs.Functions.{environment_of, with_function, with_signature}
use Rattle.pts_code.specs.Values.{Environment}
use Rattle.pts_program.specs.declared.info.ArrayInfo.{ArrayInfo}
use Rattle.pts_passes.specs.Laws.{NamesAreKnown, with_array_name}
use Rattle.pts_passes.specs.Passes.{with_array}

of_functions : (env : Environment) (functions : List FunctionInfo) → scope_of_names (fold with_function env functions) ≡ fold with_signature (scope_of_names env) functions
of_functions env [] = refl
of_functions env (f ∷ rest) = of_functions (with_function env f) rest

of_arrays : (env : Environment) (arrays : List ArrayInfo) → scope_of_names (fold with_array env arrays) ≡ fold with_array_name (scope_of_names env) arrays
of_arrays env [] = refl
of_arrays env (a ∷ rest) = of_arrays (with_array env a) rest

pub names_are_known : NamesAreKnown
names_are_known pass =
    of_arrays (environment_of pass.functions) pass.arrays ∙ ap (λ scope. fold with_array_name scope pass.arrays) (of_functions [] pass.functions)
