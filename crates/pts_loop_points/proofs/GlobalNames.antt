-- What the names of a program's arrays and functions stand for.
use Rattle.std.proofs.Common.{◌≡◌, true, false, if◌then◌else◌, Some, List, [], ◌∷◌, ◌++◌, fold, map, bytes_eq, refl, ap, ◌∙◌}
use Rattle.std.proofs.lemmas.Bool.{or_parts}
use Rattle.std.proofs.lemmas.Slice.Eq.{bytes_eq-Decides}
use Rattle.pts_rules.specs.Known.{Scope}
use Rattle.pts_rules.specs.Names.{has_repeat}
use Rattle.pts_rules.specs.Parts.{Name, is_among}
use Rattle.pts_code.specs.Codes.{Sight}
use Rattle.pts_code.specs.Compiling.{Holds, scope_of_names}
use Rattle.pts_code.specs.Functions.{environment_of, scope_of}
use Rattle.pts_code.specs.Values.{Array, Environment, bound_to}
use Rattle.pts_code.specs.declared.compiling.Spot.{Spot}
use Rattle.pts_code.proofs.Scopes.{scope_of_functions}
use Rattle.pts_program.specs.declared.info.ArrayInfo.{ArrayInfo}
use Rattle.pts_program.specs.declared.lists.Lists.{Lists}
use Rattle.pts_program.specs.Globals.{global_environment, globals_of, with_array, with_elements}
use Rattle.pts_program.specs.Lists.{IsProgram}
use Rattle.pts_program.specs.Namings.{array_names}
use Rattle.pts_program.proofs.Shown.{all_shown}

-- ---- names

arrays_named : (names : Scope) (env : Environment) → names ≡ scope_of_names env → (arrays : List ArrayInfo) → fold with_array names arrays ≡ scope_of_names (fold with_elements env arrays)
arrays_named names env same [] = same
arrays_named names env same (a ∷ arrays) = arrays_named (with_array names a) (with_elements env a) (ap (λ s. with_array s a) same) arrays

pub names_stand : (lists : Lists) → globals_of lists ≡ scope_of_names (global_environment lists)
names_stand lists = arrays_named (scope_of lists.functions) (environment_of lists.functions) (scope_of_functions lists.functions) lists.arrays

-- ---- functions at their numbers

arrays_held : (sight : Sight) (spots : List Spot) (env : Environment) (arrays : List ArrayInfo) → Holds sight spots env → Holds sight spots (fold with_elements env arrays)
arrays_held sight spots env [] h = h
arrays_held sight spots env (a ∷ arrays) h = arrays_held sight spots (with_elements env a) arrays h

pub names_hold : (lists : Lists) (sight : Sight) (spots : List Spot) → Holds sight spots (environment_of lists.functions) → Holds sight spots (global_environment lists)
names_hold lists sight spots h = arrays_held sight spots (environment_of lists.functions) lists.arrays h

-- ---- in the order of their declarations

-- arrays in order, with the kinds of their elements
abbrev array_bounds : List ArrayInfo → Environment
array_bounds arrays = map (λ a. (a.name, Array a.kind)) arrays

-- a name of none of these arrays
not_hidden : (env : Environment) (arrays : List ArrayInfo) (name : Name) → is_among name (array_names arrays) ≡ false → bound_to (fold with_elements env arrays) name ≡ bound_to env name
not_hidden env [] name apart = refl
not_hidden env (a ∷ arrays) name apart =
    let parts = or_parts (bytes_eq name a.name) (is_among name (array_names arrays)) apart in
    not_hidden (with_elements env a) arrays name parts.1 ∙ ap (λ b. if b then Some (Array a.kind) else bound_to env name) parts.0

-- another name in front of what stands behind the arrays
other_behind : (env : Environment) (a : ArrayInfo) (arrays : List ArrayInfo) (name : Name) → bytes_eq name a.name ≡ false → bound_to (array_bounds arrays ++ with_elements env a) name ≡ bound_to (array_bounds arrays ++ env) name
other_behind env a [] name other = ap (λ b. if b then Some (Array a.kind) else bound_to env name) other
other_behind env a (b ∷ arrays) name other =
    elim (bytes_eq name b.name) as (λ t. (if t then Some (Array b.kind) else bound_to (array_bounds arrays ++ with_elements env a) name) ≡ (if t then Some (Array b.kind) else bound_to (array_bounds arrays ++ env) name)) [
      | true ↦ refl
      | false ↦ other_behind env a arrays name other
    ]

turned : (env : Environment) (arrays : List ArrayInfo) → has_repeat (array_names arrays) ≡ false → (name : Name) → bound_to (fold with_elements env arrays) name ≡ bound_to (array_bounds arrays ++ env) name
turned env [] once name = refl
turned env (a ∷ arrays) once name =
    let parts = or_parts (is_among a.name (array_names arrays)) (has_repeat (array_names arrays)) once in
    (elim (bytes_eq name a.name) as (λ t. bytes_eq name a.name ≡ t → bound_to (fold with_elements (with_elements env a) arrays) name ≡ (if t then Some (Array a.kind) else bound_to (array_bounds arrays ++ env) name)) [
      | true ↦ λ same.
          not_hidden (with_elements env a) arrays name (ap (λ n. is_among n (array_names arrays)) ((bytes_eq-Decides name a.name).0 same) ∙ parts.0)
          ∙ ap (λ t. if t then Some (Array a.kind) else bound_to env name) same
      | false ↦ λ other. turned (with_elements env a) arrays parts.1 name ∙ other_behind env a arrays name other
    ]) refl

pub names_bound : (lists : Lists) (name : Name) → IsProgram lists
    → bound_to (global_environment lists) name ≡ bound_to (map (λ a. (a.name, Array a.kind)) lists.arrays ++ environment_of lists.functions) name
names_bound lists name h = turned (environment_of lists.functions) lists.arrays (all_shown lists h).arrays_once name
