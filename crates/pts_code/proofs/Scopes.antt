-- Scopes that grow by the names of functions and parameters, and the environments that they are of.
use Rattle.std.proofs.Common.{◌≡◌, IsTrue, ℕ, zero, suc, ◌+◌, ◌-◌, ◌≤◌, Bool, true, ◌&&◌, Some, None, Option, Ok, fold, List, [], ◌∷◌, ◌++◌, length, take, drop, slice_get, count_by, cond, refl, sym, ap, ◌∙◌, arith}
use Rattle.std.specs.List.{list_all}
use Rattle.std.proofs.lemmas.Bool.{leb-true, le-leb}
use Rattle.std.proofs.lemmas.Option.{none-some}
use Rattle.std.proofs.lemmas.List.{length_push, append_assoc, drop-drop, length-map}
use Rattle.std.proofs.lemmas.List.Sums.{fold_push}
use Rattle.pts_types.specs.declared.value.Value.{Value}
use Rattle.pts_tree.specs.declared.script.Param.{Param}
use Rattle.pts_rules.specs.Known.{Scope}
use Rattle.pts_rules.specs.Parts.{Name}
use Rattle.pts_rules.specs.Scopes.{param_entry}
use Rattle.pts_code.specs.declared.code.Code.{Code}
use Rattle.pts_code.specs.declared.function.FunctionInfo.{FunctionInfo}
use Rattle.pts_code.specs.declared.compiling.Spot.{Spot}
use Rattle.pts_code.specs.Codes.{Sight, body_sight, gives, local, functions_of, with_code}
use Rattle.pts_code.specs.Compiling.{Holds, IsCode, IsCompiled, has_few, is_local, is_function, locals, functions, scope_of_names}
use Rattle.pts_code.specs.Functions.{first_value, with_params, function_value, with_function, environment_of, outcome_of, gives_after, gives_of, with_signature, scope_of, body_scope}
use Rattle.pts_code.specs.Outcomes.{Gives, never}
use Rattle.pts_code.specs.Values.{Bound, Local, Function, Environment}
use Rattle.pts_code.proofs.Calls.{functions_length}
use Rattle.pts_code.proofs.Truths.{and_left, and_right}
use Rattle.pts_code.proofs.Numbering.{get_push, get_kept}

-- ---- scopes

pub params_length : (scope : Scope) (ps : List Param) → length (body_scope scope ps) ≡ length scope + length ps
params_length scope [] = omega arith
params_length scope (p ∷ ps) = omega (arith, params_length (param_entry p ∷ scope) ps)

params_dropped : (scope : Scope) (ps : List Param) → drop (length ps) (body_scope scope ps) ≡ scope
params_dropped scope [] = refl
params_dropped scope (p ∷ ps) =
    let one : length (p ∷ ps) ≡ length ps + 1 = omega arith in
    ap (λ n. drop n (body_scope (param_entry p ∷ scope) ps)) one
    ∙ sym (drop-drop 1 (length ps) (body_scope (param_entry p ∷ scope) ps))
    ∙ ap (drop 1) (params_dropped (param_entry p ∷ scope) ps)

-- without the parameters again
pub left_again : (scope : Scope) (ps : List Param) → drop (length (body_scope scope ps) - length scope) (body_scope scope ps) ≡ scope
left_again scope ps =
    let left : length (body_scope scope ps) - length scope ≡ length ps = omega (arith, params_length scope ps) in
    ap (λ n. drop n (body_scope scope ps)) left ∙ params_dropped scope ps

pub scope_of_params : (env : Environment) (ps : List Param) (vs : List Value) → body_scope (scope_of_names env) ps ≡ scope_of_names (with_params env ps vs)
scope_of_params env [] vs = refl
scope_of_params env (p ∷ ps) vs = scope_of_params ((p.name, Local p.kind (Ok (first_value vs))) ∷ env) ps (drop 1 vs)

names_after : (env : Environment) (fs : List FunctionInfo) → fold with_signature (scope_of_names env) fs ≡ scope_of_names (fold with_function env fs)
names_after env [] = refl
names_after env (f ∷ fs) = names_after (with_function env f) fs

pub scope_of_functions : (fs : List FunctionInfo) → scope_of fs ≡ scope_of_names (environment_of fs)
scope_of_functions fs = names_after [] fs

-- ---- what holds in an environment

count_more : {A : Type 0} (p : A → Bool) (n : ℕ) (xs : List A) → fold (λ a x. a + cond (p x) 1 0) n xs ≡ n + fold (λ a x. a + cond (p x) 1 0) 0 xs
count_more p n [] = omega arith
count_more p n (x ∷ xs) = omega (arith, count_more p (n + cond (p x) 1 0) xs, count_more p (0 + cond (p x) 1 0) xs)

pub count_cons : {A : Type 0} (p : A → Bool) (x : A) (xs : List A) → count_by p (x ∷ xs) ≡ count_by p xs + cond (p x) 1 0
count_cons p x xs = omega (arith, count_more p (0 + cond (p x) 1 0) xs)

first_local : (vs : List Value) → local vs 0 ≡ Ok (first_value vs)
first_local [] = refl
first_local (v ∷ vs) = refl

pub local_there : (vs : List Value) (n : ℕ) → local vs n ≡ Ok (first_value (drop n vs))
local_there vs zero = first_local vs
local_there [] (suc n) = refl
local_there (v ∷ vs) (suc n) = local_there vs n

-- the values of the parameters stand in the frame
pub holds_params : (sight : Sight) (env : Environment) (ps : List Param) (vs : List Value)
    → vs ≡ drop (locals env) sight.values → Holds sight [] env → Holds sight [] (with_params env ps vs)
holds_params sight env [] vs is h = h
holds_params sight env (p ∷ ps) vs is h =
    let more : Environment = (p.name, Local p.kind (Ok (first_value vs))) ∷ env in
    let count : locals env + 1 ≡ locals more = omega (arith, count_cons (λ (entry : Name × Bound). is_local entry.1) (p.name, Local p.kind (Ok (first_value vs))) env) in
    holds_params sight more ps (drop 1 vs)
    (ap (drop 1) is ∙ drop-drop 1 (locals env) sight.values ∙ ap (λ n. drop n sight.values) count)
    (local_there sight.values (locals env) ∙ ap (λ ws. Ok (first_value ws)) (sym is), h)

functions_one : (f : FunctionInfo) (env : Environment) → functions (with_function env f) ≡ functions env + 1
functions_one f env = count_cons (λ (entry : Name × Bound). is_function entry.1) (f.name, Function (function_value env f)) env

-- functions that stand behind others at their numbers
holds_after : (sight : Sight) (spots : List Spot) (fs : List FunctionInfo) (before : List Gives) (env : Environment)
    → sight.functions ≡ before ++ gives_after env fs → length before ≡ functions env → IsTrue (list_all has_few fs) → Holds sight spots env → Holds sight spots (fold with_function env fs)
holds_after sight spots [] before env is count few h = h
holds_after sight spots (f ∷ fs) before env is count few h =
    let g = (function_value env f).gives in
    let rest = gives_after (with_function env f) fs in
    let again : sight.functions ≡ (before ++ g ∷ []) ++ rest = is ∙ sym (append_assoc before (g ∷ []) rest) in
    let found : slice_get sight.functions (functions env) ≡ Some g =
    ap (λ xs. slice_get xs (functions env)) again ∙ get_kept (before ++ g ∷ []) rest (functions env) g (ap (slice_get (before ++ g ∷ [])) (sym count) ∙ get_push before g) in
    let more : length (before ++ g ∷ []) ≡ functions (with_function env f) = omega (arith, length_push before g, count, functions_one f env) in
    holds_after sight spots fs (before ++ g ∷ []) (with_function env f) again more (and_right (has_few f) (list_all has_few fs) few)
    (found, omega (arith, leb-true (length f.params) 8 (and_left (has_few f) (list_all has_few fs) few), length-map f.params (λ p. p.kind)), h)

-- the functions stand at their numbers
pub holds_functions : (sight : Sight) (spots : List Spot) (fs : List FunctionInfo) → sight.functions ≡ gives_of fs → IsTrue (list_all has_few fs) → Holds sight spots (environment_of fs)
holds_functions sight spots fs is few = holds_after sight spots fs [] [] is refl few tt

-- ---- one function more

pub gives_push : (env : Environment) (fs : List FunctionInfo) (f : FunctionInfo) → gives_after env (fs ++ f ∷ []) ≡ gives_after env fs ++ (function_value (fold with_function env fs) f).gives ∷ []
gives_push env [] f = refl
gives_push env (x ∷ xs) f = ap (λ rest. (function_value env x).gives ∷ rest) (gives_push (with_function env x) xs f)

few_push : (fs : List FunctionInfo) (f : FunctionInfo) → IsTrue (list_all has_few fs) → length f.params ≤ 8 → IsTrue (list_all has_few (fs ++ f ∷ []))
few_push [] f all few = ap (λ b. b && true) (le-leb (length f.params) 8 few)
few_push (x ∷ xs) f all few =
    ap (λ b. b && list_all has_few (xs ++ f ∷ [])) (and_left (has_few x) (list_all has_few xs) all)
    ∙ few_push xs f (and_right (has_few x) (list_all has_few xs) all) few

locals_after : (env : Environment) (fs : List FunctionInfo) → locals (fold with_function env fs) ≡ locals env
locals_after env [] = refl
locals_after env (f ∷ fs) =
    let one : locals (with_function env f) ≡ locals env = omega (arith, count_cons (λ (entry : Name × Bound). is_local entry.1) (f.name, Function (function_value env f)) env) in
    locals_after (with_function env f) fs ∙ one

no_locals : (fs : List FunctionInfo) (values : List Value) → values ≡ drop (locals (environment_of fs)) values
no_locals fs values = ap (λ n. drop n values) (sym (locals_after [] fs))

-- the code of its body gives what the function gives
body_same : (fs : List FunctionInfo) (codes : List Code) (scope : Scope) (f : FunctionInfo) (code : Code) → IsCompiled fs codes scope → IsCode (body_scope scope f.params) [] f.kind 0 f.body code
    → (λ values. gives (body_sight (functions_of codes) values) code) ≡ (function_value (environment_of fs) f).gives
body_same fs codes scope f code c is =
    λ i values.
    is.means (with_params (environment_of fs) f.params values) (body_sight (functions_of codes) values)
    (ap (λ s. body_scope s f.params) (c.named ∙ scope_of_functions fs) ∙ scope_of_params (environment_of fs) f.params values)
    (holds_params (body_sight (functions_of codes) values) (environment_of fs) f.params values (no_locals fs values) (holds_functions (body_sight (functions_of codes) values) [] fs c.same c.few))
    i

pub compiled_push : (fs : List FunctionInfo) (codes : List Code) (scope : Scope) (f : FunctionInfo) (code : Code)
    → IsCompiled fs codes scope → length f.params ≤ 8 → IsCode (body_scope scope f.params) [] f.kind 0 f.body code
    → IsCompiled (fs ++ f ∷ []) (codes ++ code ∷ []) (with_signature scope f)
compiled_push fs codes scope f code c few is = record {
  named = ap (λ s. with_signature s f) c.named ∙ sym (fold_push with_signature [] fs f);
  same =
      fold_push with_code [] codes code
      ∙ (λ i. c.same i ++ body_same fs codes scope f code c is i ∷ [])
      ∙ sym (gives_push [] fs f);
  few = few_push fs f c.few few;
}

-- ---- calls

abbrev gives_in : Option Gives → Gives
gives_in None arguments = never
gives_in (Some g) arguments = g arguments

gives_at : (env : Environment) (fs : List FunctionInfo) (n : ℕ) (arguments : List Value) (g : Gives) → slice_get (gives_after env fs) n ≡ Some g
    → g arguments ≡ elim (slice_get fs n) [ None ↦ never | Some f ↦ (function_value (fold with_function env (take n fs)) f).gives arguments ]
gives_at env [] n arguments g is = absurd (none-some g is)
gives_at env (f ∷ fs) zero arguments g is = ap (λ o. gives_in o arguments) (sym is)
gives_at env (f ∷ fs) (suc n) arguments g is = gives_at (with_function env f) fs n arguments g is

pub outcome_at : (fs : List FunctionInfo) (codes : List Code) (scope : Scope) (n : ℕ) (arguments : List Value) (g : Gives)
    → IsCompiled fs codes scope → slice_get (functions_of codes) n ≡ Some g → g arguments ≡ outcome_of fs n arguments
outcome_at fs codes scope n arguments g c is = gives_at [] fs n arguments g (ap (λ xs. slice_get xs n) (sym c.same) ∙ is)

gives_length : (env : Environment) (fs : List FunctionInfo) → length (gives_after env fs) ≡ length fs
gives_length env [] = refl
gives_length env (f ∷ fs) = ap (λ n. suc n) (gives_length (with_function env f) fs)

-- as many codes as functions
pub codes_length : (fs : List FunctionInfo) (codes : List Code) (scope : Scope) → IsCompiled fs codes scope → length codes ≡ length fs
codes_length fs codes scope c = sym (functions_length codes) ∙ ap length c.same ∙ gives_length [] fs
