-- What names stand for, along lists of names.
use Rattle.std.proofs.Common.{◌≡◌, ℕ, ◌+◌, ◌<◌, true, false, if◌then◌else◌, Some, List, [], ◌∷◌, ◌++◌, length, get_or, take, bytes_eq, refl, sym, ap, ◌∙◌}
use Rattle.std.specs.Option.{option_or}
use Rattle.std.specs.Prelude.{option_map}
use Rattle.std.proofs.lemmas.List.{take_more}
use Rattle.std.proofs.lemmas.List.Sums.{fold_push}
use Rattle.std.proofs.lemmas.Option.{slice_get_read}
use Rattle.pts_rules.specs.Parts.{Name}
use Rattle.pts_code.specs.declared.function.FunctionInfo.{FunctionInfo}
use Rattle.pts_code.specs.Functions.{environment_of, function_value, with_function}
use Rattle.pts_code.specs.Values.{Function, Environment, bound_to}
use Rattle.pts_program.specs.declared.lists.Lists.{Lists}
use Rattle.pts_eval.specs.declared.expressions.Local.{Local}
use Rattle.pts_eval.specs.Expressions.{array_names, environment, function_bound, local_names}

-- the names of one list before those of another
pub bound_both : (env rest : Environment) (name : Name) → bound_to (env ++ rest) name ≡ option_or (bound_to env name) (bound_to rest name)
bound_both [] rest name = refl
bound_both (entry ∷ env) rest name =
    elim (bytes_eq name entry.0) as (λ b. (if b then Some entry.1 else bound_to (env ++ rest) name) ≡ option_or (if b then Some entry.1 else bound_to env name) (bound_to rest name)) [
      | true ↦ refl
      | false ↦ bound_both env rest name
    ]

-- the names of local values, of arrays and of functions
pub all_names : (program : Lists) (locals : List Local) (name : Name)
    → bound_to (environment program locals) name
    ≡ option_or (bound_to (local_names locals) name) (option_or (bound_to (array_names program.arrays) name) (bound_to (environment_of program.functions) name))
all_names program locals name =
    bound_both (local_names locals) (array_names program.arrays ++ environment_of program.functions) name
    ∙ ap (option_or (bound_to (local_names locals) name)) (bound_both (array_names program.arrays) (environment_of program.functions) name)

-- ---- functions

module _ (fs : List FunctionInfo) (n : ℕ) (f : FunctionInfo) (name : Name) where
  one_more : n < length fs → f ≡ get_or fs n f → environment_of (take (n + 1) fs) ≡ with_function (environment_of (take n fs)) f
  one_more within is =
      ap environment_of (take_more fs n f within ∙ ap (λ g. take n fs ++ g ∷ []) (sym is))
      ∙ fold_push with_function [] (take n fs) f

  -- the latest of a name hides the earlier ones
  pub function_here : n < length fs → f ≡ get_or fs n f → bytes_eq name f.name ≡ true → function_bound fs n ≡ bound_to (environment_of (take (n + 1) fs)) name
  function_here within is found =
      ap (option_map (λ (g : FunctionInfo). Function (function_value (environment_of (take n fs)) g))) (slice_get_read fs (length fs) n f refl within is)
      ∙ sym (ap (λ env. bound_to env name) (one_more within is) ∙ ap (λ b. if b then Some (Function (function_value (environment_of (take n fs)) f)) else bound_to (environment_of (take n fs)) name) found)

  pub function_past : n < length fs → f ≡ get_or fs n f → bytes_eq name f.name ≡ false → bound_to (environment_of (take n fs)) name ≡ bound_to (environment_of (take (n + 1) fs)) name
  function_past within is lost =
      sym (ap (λ env. bound_to env name) (one_more within is) ∙ ap (λ b. if b then Some (Function (function_value (environment_of (take n fs)) f)) else bound_to (environment_of (take n fs)) name) lost)
