-- What functions give, each of which calls earlier ones only.
use Rattle.std.specs.Prelude.{ℕ, Some, None, Ok, List, [], ◌∷◌, fold, map, take, drop, slice_get}
use Rattle.pts_types.specs.declared.value.Kind.{Kind}
use Rattle.pts_types.specs.declared.value.Value.{Value}
use Rattle.pts_types.specs.declared.value.Value.TheVariants as values
use Rattle.pts_tree.specs.declared.script.Param.{Param}
use Rattle.pts_rules.specs.declared.meaning.Meaning.TheVariants as meanings
use Rattle.pts_rules.specs.Known.{Scope}
use Rattle.pts_rules.specs.Scopes.{param_entry}
use Rattle.pts_code.specs.declared.function.FunctionInfo.{FunctionInfo}
use Rattle.pts_code.specs.Outcomes.{Gives, never}
use Rattle.pts_code.specs.Values.{FunctionValue, Local, Function, Environment, no_reads, value_of}

-- ---- what functions give

-- the first argument; where there is none, which no call does, a 0 stands for it
abbrev pub first_value : List Value → Value
first_value [] = values.U64 0
first_value (value ∷ rest) = value

-- the parameters of a function with the values of its arguments
abbrev pub with_params : Environment → List Param → List Value → Environment
with_params env [] arguments = env
with_params env (p ∷ ps) arguments = with_params ((p.name, Local p.kind (Ok (first_value arguments))) ∷ env) ps (drop 1 arguments)

abbrev pub kinds_of : List Param → List Kind
kinds_of params = map (λ p. p.kind) params

-- a function where earlier ones are known: its body at its kind
abbrev pub function_value : Environment → FunctionInfo → FunctionValue
function_value env f = record {
  params = kinds_of f.params;
  kind = f.kind;
  gives = λ arguments. value_of (with_params env f.params arguments) no_reads f.kind 0 f.body;
}

-- a function more, in the environment of those before it
abbrev pub with_function : Environment → FunctionInfo → Environment
with_function env f = (f.name, Function (function_value env f)) ∷ env

-- these functions by their names
abbrev pub environment_of : List FunctionInfo → Environment
environment_of functions = fold with_function [] functions

-- what the function of this number gives for these arguments
abbrev pub outcome_of : List FunctionInfo → ℕ → Gives
outcome_of functions number arguments =
    elim (slice_get functions number) [ None ↦ never | Some f ↦ (function_value (environment_of (take number functions)) f).gives arguments ]

-- what these functions give, in order, behind those of an environment
abbrev pub gives_after : Environment → List FunctionInfo → List Gives
gives_after env [] = []
gives_after env (f ∷ fs) = (function_value env f).gives ∷ gives_after (with_function env f) fs

abbrev pub gives_of : List FunctionInfo → List Gives
gives_of functions = gives_after [] functions

-- ---- names in scope

-- a function as a name in scope
abbrev pub with_signature : Scope → FunctionInfo → Scope
with_signature scope f = (f.name, meanings.Function (record { params = kinds_of f.params; kind = f.kind; depth = 0; size = 0 })) ∷ scope

-- the names of these functions
abbrev pub scope_of : List FunctionInfo → Scope
scope_of functions = fold with_signature [] functions

-- and these parameters as well
abbrev pub body_scope : Scope → List Param → Scope
body_scope scope params = fold (λ names p. param_entry p ∷ names) scope params
