-- Functions whose bodies have their kinds give values of these kinds, or throw.
use Rattle.std.proofs.Common.{◌≡◌, ℕ, zero, suc, false, IsTrue, Some, None, Ok, fold, List, [], ◌∷◌, take, slice_get, sym, subst}
use Rattle.std.proofs.lemmas.Bool.{false≢true}
use Rattle.std.proofs.lemmas.Option.{none-some}
use Rattle.pts_types.specs.Arithmetic.{GivesKind}
use Rattle.pts_types.specs.declared.value.Value.{Value}
use Rattle.pts_tree.specs.declared.script.Param.{Param}
use Rattle.pts_rules.specs.Kinds.{fits}
use Rattle.pts_code.specs.declared.function.FunctionInfo.{FunctionInfo}
use Rattle.pts_code.specs.Compiling.{scope_of_names}
use Rattle.pts_code.specs.Functions.{with_params, kinds_of, function_value, with_function, environment_of, outcome_of, body_scope}
use Rattle.pts_code.specs.Outcomes.{never}
use Rattle.pts_code.specs.Soundness.{AreOfKinds, HasItsKind, HaveTheirKinds, HaveTypedBodies, operators_right}
use Rattle.pts_code.specs.Values.{Local, Function, Environment, no_reads}
use Rattle.pts_code.proofs.KindsGiven.{gives_kind}
use Rattle.pts_code.proofs.Scopes.{scope_of_params}

params_kinds : (env : Environment) (ps : List Param) (vs : List Value) → HaveTheirKinds env → AreOfKinds (kinds_of ps) vs → HaveTheirKinds (with_params env ps vs)
params_kinds env [] vs known h = known
params_kinds env (p ∷ ps) [] known h = absurd h
params_kinds env (p ∷ ps) (v ∷ vs) known h = params_kinds ((p.name, Local p.kind (Ok v)) ∷ env) ps vs (h.0, known) h.1

-- a function in the environment of those before it
one_kind : (env : Environment) (f : FunctionInfo) → HaveTheirKinds env → IsTrue (fits false (body_scope (scope_of_names env) f.params) f.kind f.body) → IsTrue (operators_right f.body)
    → HasItsKind (Function (function_value env f))
one_kind env f known typed ops arguments h =
    gives_kind false (with_params env f.params arguments) no_reads (params_kinds env f.params arguments known h) f.body ops f.kind 0
    (subst (λ scope. IsTrue (fits false scope f.kind f.body)) (scope_of_params env f.params arguments) typed)
    (λ may. absurd (false≢true may))

-- all of them
pub functions_kinds : (env : Environment) (fs : List FunctionInfo) → HaveTheirKinds env → HaveTypedBodies (scope_of_names env) fs → HaveTheirKinds (fold with_function env fs)
functions_kinds env [] known h = known
functions_kinds env (f ∷ fs) known h = functions_kinds (with_function env f) fs (one_kind env f known h.0 h.1, known) h.2

function_gives : (env : Environment) (fs : List FunctionInfo) (n : ℕ) (f : FunctionInfo) → HaveTheirKinds env → HaveTypedBodies (scope_of_names env) fs → slice_get fs n ≡ Some f
    → HasItsKind (Function (function_value (fold with_function env (take n fs)) f))
function_gives env [] n f known h is = absurd (none-some f is)
function_gives env (g ∷ fs) zero f known h is =
    let one : g ≡ f = cc in
    subst (λ x. HasItsKind (Function (function_value env x))) one (one_kind env g known h.0 h.1)
function_gives env (g ∷ fs) (suc n) f known h is = function_gives (with_function env g) fs n f (one_kind env g known h.0 h.1, known) h.2 is

pub outcome_kind : (fs : List FunctionInfo) (n : ℕ) (f : FunctionInfo) (arguments : List Value) → HaveTypedBodies [] fs → slice_get fs n ≡ Some f → AreOfKinds (kinds_of f.params) arguments → GivesKind f.kind (outcome_of fs n arguments)
outcome_kind fs n f arguments h is has =
    subst (λ o. GivesKind f.kind (elim o [ None ↦ never | Some x ↦ (function_value (environment_of (take n fs)) x).gives arguments ])) (sym is)
    (function_gives [] fs n f tt h is arguments has)
