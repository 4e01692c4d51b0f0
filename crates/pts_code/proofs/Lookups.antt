-- What the names of an environment's scope stand for.
use Rattle.std.proofs.Common.{◌≡◌, ◌⊎◌, inl, inr, ℕ, ◌+◌, ◌≤◌, Bool, true, false, cond, if◌then◌else◌, fold, Option, Some, None, List, [], ◌∷◌, length, slice_get, option_map, option_and_then, count_by, bytes_eq, refl, sym, ap, ◌∙◌}
use Rattle.std.specs.Prelude.{unwrap_or}
use Rattle.std.proofs.lemmas.Option.{none-some}
use Rattle.pts_types.specs.declared.value.Kind.{Kind}
use Rattle.pts_rules.specs.declared.meaning.Meaning.{Meaning}
use Rattle.pts_rules.specs.declared.meaning.Signature.{Signature}
use Rattle.pts_rules.specs.Known.{Entry, Scope, meaning_of, number_among, function_of, as_function, as_array, kind_of_array, is_value, function_number, value_number}
use Rattle.pts_rules.specs.Known as known
use Rattle.pts_rules.specs.Parts.{Name}
use Rattle.pts_code.specs.declared.compiling.Spot.{Spot}
use Rattle.pts_code.specs.Codes.{Sight}
use Rattle.pts_code.specs.Compiling.{Holds, at_spot, spot_of, meaning_of_bound, scope_of_names, is_local, is_function, locals, functions}
use Rattle.pts_code.specs.Outcomes.{never}
use Rattle.pts_code.specs.Values.{Bound, Local, Array, Function, FunctionValue, Environment, Reads, Valuation, bound_to, count, inside, name_valuation, call_valuation, element_valuation}

pub meaning_is : (env : Environment) (name : Name) → meaning_of (scope_of_names env) name ≡ option_map meaning_of_bound (bound_to env name)
meaning_is [] name = refl
meaning_is (entry ∷ env) name =
    elim (bytes_eq name entry.0) as (λ b. (if b then Some (meaning_of_bound entry.1) else meaning_of (scope_of_names env) name) ≡ option_map meaning_of_bound (if b then Some entry.1 else bound_to env name)) [
      | true ↦ refl
      | false ↦ meaning_is env name
    ]

-- ---- numbers

locals_from : (n : ℕ) (env : Environment) → fold (λ a (e : Entry). a + cond (is_value e.1) 1 0) n (scope_of_names env) ≡ fold (λ a (e : Name × Bound). a + cond (is_local e.1) 1 0) n env
locals_from n [] = refl
locals_from n ((name, Local kind outcome) ∷ env) = locals_from (n + 1) env
locals_from n ((name, Array kind) ∷ env) = locals_from (n + 0) env
locals_from n ((name, Function f) ∷ env) = locals_from (n + 0) env

functions_from : (n : ℕ) (env : Environment)
    → fold (λ a (e : Entry). a + cond (known.is_function e.1) 1 0) n (scope_of_names env) ≡ fold (λ a (e : Name × Bound). a + cond (is_function e.1) 1 0) n env
functions_from n [] = refl
functions_from n ((name, Local kind outcome) ∷ env) = functions_from (n + 0) env
functions_from n ((name, Array kind) ∷ env) = functions_from (n + 0) env
functions_from n ((name, Function f) ∷ env) = functions_from (n + 1) env

count_locals : (env : Environment) → count_by (λ (e : Entry). is_value e.1) (scope_of_names env) ≡ locals env
count_locals env = locals_from 0 env

count_functions : (env : Environment) → count_by (λ (e : Entry). known.is_function e.1) (scope_of_names env) ≡ functions env
count_functions env = functions_from 0 env

pub local_at : (env : Environment) (sight : Sight) (spots : List Spot) (name : Name) (n : ℕ) (kind : Kind) (first : ℕ)
    → Holds sight spots env → value_number (scope_of_names env) name ≡ Some n → at_spot sight (spot_of spots n) ≡ (name_valuation (bound_to env name)).value kind first
local_at [] sight spots name n kind first holds is = absurd (none-some n is)
local_at ((x, Local own outcome) ∷ env) sight spots name n kind first holds is =
    elim (bytes_eq name x) as (λ b.
    (if b then Some (count_by (λ (e : Entry). is_value e.1) (scope_of_names env)) else value_number (scope_of_names env) name) ≡ Some n
    → at_spot sight (spot_of spots n) ≡ (name_valuation (if b then Some (Local own outcome) else bound_to env name)).value kind first) [
      | true ↦ λ found. sym (ap (λ m. at_spot sight (spot_of spots m)) (sym (count_locals env) ∙ ap (λ o. unwrap_or o 0) found)) ∙ holds.0
      | false ↦ λ found. local_at env sight spots name n kind first holds.1 found
    ] is
local_at ((x, Array own) ∷ env) sight spots name n kind first holds is =
    elim (bytes_eq name x) as (λ b.
    (if b then None else value_number (scope_of_names env) name) ≡ Some n
    → at_spot sight (spot_of spots n) ≡ (name_valuation (if b then Some (Array own) else bound_to env name)).value kind first) [
      | true ↦ λ found. absurd (none-some n found)
      | false ↦ λ found. local_at env sight spots name n kind first holds found
    ] is
local_at ((x, Function f) ∷ env) sight spots name n kind first holds is =
    elim (bytes_eq name x) as (λ b.
    (if b then None else value_number (scope_of_names env) name) ≡ Some n
    → at_spot sight (spot_of spots n) ≡ (name_valuation (if b then Some (Function f) else bound_to env name)).value kind first) [
      | true ↦ λ found. absurd (none-some n found)
      | false ↦ λ found. local_at env sight spots name n kind first holds.2 found
    ] is

-- a function that a name stands for, and where it is
pub record Found (sight : Sight) (n : ℕ) (o : Option Bound) : Type 0 where
  pub function : FunctionValue
  pub bound : o ≡ Some (Function function)
  pub at : slice_get sight.functions n ≡ Some function.gives
  pub few : length function.params ≤ 8

pub function_found : (env : Environment) (sight : Sight) (spots : List Spot) (name : Name) (n : ℕ)
    → Holds sight spots env → function_number (scope_of_names env) name ≡ Some n → Found sight n (bound_to env name)
function_found [] sight spots name n holds is = absurd (none-some n is)
function_found ((x, Local own outcome) ∷ env) sight spots name n holds is =
    elim (bytes_eq name x) as (λ b.
    (if b then None else function_number (scope_of_names env) name) ≡ Some n
    → Found sight n (if b then Some (Local own outcome) else bound_to env name)) [
      | true ↦ λ found. absurd (none-some n found)
      | false ↦ λ found. function_found env sight spots name n holds.1 found
    ] is
function_found ((x, Array own) ∷ env) sight spots name n holds is =
    elim (bytes_eq name x) as (λ b.
    (if b then None else function_number (scope_of_names env) name) ≡ Some n
    → Found sight n (if b then Some (Array own) else bound_to env name)) [
      | true ↦ λ found. absurd (none-some n found)
      | false ↦ λ found. function_found env sight spots name n holds found
    ] is
function_found ((x, Function f) ∷ env) sight spots name n holds is =
    elim (bytes_eq name x) as (λ b.
    (if b then Some (count_by (λ (e : Entry). known.is_function e.1) (scope_of_names env)) else function_number (scope_of_names env) name) ≡ Some n
    → Found sight n (if b then Some (Function f) else bound_to env name)) [
      | true ↦ λ found. record {
        function = f;
        bound = refl;
        at = sym (ap (slice_get sight.functions) (sym (count_functions env) ∙ ap (λ o. unwrap_or o 0) found)) ∙ holds.0;
        few = holds.1;
      }
      | false ↦ λ found. function_found env sight spots name n holds.2 found
    ] is

abbrev params_of : Option Signature → List Kind
params_of None = []
params_of (Some x) = x.params

-- its parameters are those that the scope knows
pub params_known : (env : Environment) (name : Name) (f : FunctionValue) (s : Signature)
    → bound_to env name ≡ Some (Function f) → function_of (scope_of_names env) name ≡ Some s → s.params ≡ f.params
params_known env name f s bound found =
    ap params_of (sym found ∙ ap (option_and_then as_function) (meaning_is env name ∙ ap (option_map meaning_of_bound) bound))

-- ---- elements

element_with : (rs : Reads) (name : Name) (o : Option Bound) (x : Valuation) (k : Kind) → option_map (λ a. a.0) (option_and_then as_array (option_map meaning_of_bound o)) ≡ Some k
    → (kind : Kind) (first : ℕ) → rs.outcome (first + inside rs.indices (count x)) ≡ (element_valuation rs name o x).value kind first
element_with rs name None x k is kind first = absurd (none-some k is)
element_with rs name (Some (Local own outcome)) x k is kind first = absurd (none-some k is)
element_with rs name (Some (Array own)) x k is kind first = refl
element_with rs name (Some (Function f)) x k is kind first = absurd (none-some k is)

-- an element of an array is what it gave when it was read
pub element_at : (env : Environment) (rs : Reads) (name : Name) (x : Valuation) (k : Kind) → kind_of_array (scope_of_names env) name ≡ Some k
    → (kind : Kind) (first : ℕ) → rs.outcome (first + inside rs.indices (count x)) ≡ (element_valuation rs name (bound_to env name) x).value kind first
element_at env rs name x k is = element_with rs name (bound_to env name) x k (ap (λ m. option_map (λ a. a.0) (option_and_then as_array m)) (sym (meaning_is env name)) ∙ is)

element_without : (rs : Reads) (name : Name) (o : Option Bound) (x : Valuation) → option_map (λ a. a.0) (option_and_then as_array (option_map meaning_of_bound o)) ≡ None
    → (kind : Kind) (first : ℕ) → (element_valuation rs name o x).value kind first ≡ never
element_without rs name None x is kind first = refl
element_without rs name (Some (Local own outcome)) x is kind first = refl
element_without rs name (Some (Array own)) x is kind first = absurd (none-some own (sym is))
element_without rs name (Some (Function f)) x is kind first = refl

-- a name that is not an array's has no elements
pub no_element : (env : Environment) (rs : Reads) (name : Name) (x : Valuation) → kind_of_array (scope_of_names env) name ≡ None
    → (kind : Kind) (first : ℕ) → (element_valuation rs name (bound_to env name) x).value kind first ≡ never
no_element env rs name x is = element_without rs name (bound_to env name) x (ap (λ m. option_map (λ a. a.0) (option_and_then as_array m)) (sym (meaning_is env name)) ∙ is)

-- ---- names without a number

-- a name that stands for something of a sort has a number among those of the sort
number_there : (is_one : Meaning → Bool) (names : Scope) (name : Name) (m : Meaning) → meaning_of names name ≡ Some m → is_one m ≡ true → number_among is_one names name ≡ None → ⊥
number_there is_one [] name m is one lost = none-some m is
number_there is_one (entry ∷ names) name m is one lost =
    elim (bytes_eq name entry.0) as (λ b.
    (if b then Some entry.1 else meaning_of names name) ≡ Some m
    → (if b then (if is_one entry.1 then Some (count_by (λ (e : Entry). is_one e.1) names) else None) else number_among is_one names name) ≡ None
    → ⊥) [
      | true ↦ λ found none.
          none-some (count_by (λ (e : Entry). is_one e.1) names)
          (sym none ∙ ap (λ b. if b then Some (count_by (λ (e : Entry). is_one e.1) names) else None) (ap is_one (ap (λ o. unwrap_or o m) found) ∙ one))
      | false ↦ λ found none. number_there is_one names name m found one none
    ] is lost

no_value : (names : Scope) (name : Name) (o : Option Bound) → meaning_of names name ≡ option_map meaning_of_bound o → value_number names name ≡ None
    → (kind : Kind) (first : ℕ) → (name_valuation o).value kind first ≡ never
no_value names name None is lost kind first = refl
no_value names name (Some (Local own outcome)) is lost kind first = absurd (number_there is_value names name (meaning_of_bound (Local own outcome)) is refl lost)
no_value names name (Some (Array own)) is lost kind first = refl
no_value names name (Some (Function f)) is lost kind first = refl

-- a name that is not a local value's has no value
pub no_local : (env : Environment) (name : Name) (kind : Kind) (first : ℕ) → value_number (scope_of_names env) name ≡ None → (name_valuation (bound_to env name)).value kind first ≡ never
no_local env name kind first lost = no_value (scope_of_names env) name (bound_to env name) (meaning_is env name) lost kind first

-- no function, or one without a number
abbrev pub IsLost : Scope → Name → Type 0
IsLost names name = (function_of names name ≡ None) ⊎ (function_number names name ≡ None)

no_called : (names : Scope) (name : Name) (o : Option Bound) (xs : List Valuation) → meaning_of names name ≡ option_map meaning_of_bound o → IsLost names name
    → (kind : Kind) (first : ℕ) → (call_valuation o xs).value kind first ≡ never
no_called names name None xs is lost kind first = refl
no_called names name (Some (Local own outcome)) xs is lost kind first = refl
no_called names name (Some (Array own)) xs is lost kind first = refl
no_called names name (Some (Function f)) xs is (inl lost) kind first = absurd (none-some _ (sym lost ∙ ap (option_and_then as_function) is))
no_called names name (Some (Function f)) xs is (inr lost) kind first = absurd (number_there known.is_function names name (meaning_of_bound (Function f)) is refl lost)

-- a name that is not a function's gives nothing where it is called
pub no_function : (env : Environment) (name : Name) (xs : List Valuation) (kind : Kind) (first : ℕ) → IsLost (scope_of_names env) name → (call_valuation (bound_to env name) xs).value kind first ≡ never
no_function env name xs kind first lost = no_called (scope_of_names env) name (bound_to env name) xs (meaning_is env name) lost kind first
