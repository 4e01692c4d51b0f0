-- When code gives what an expression gives.
use Rattle.std.specs.List.{list_all}
use Rattle.std.specs.Prelude.{◌≡◌, ⊤, IsTrue, ℕ, ◌^◌, ◌≤◌, ◌-◌, nat_le, count_by, min, Bool, true, false, Some, List, [], ◌∷◌, length, map, slice_get, pos, unwrap_or}
use Rattle.pts_types.specs.declared.value.Kind.{Kind}
use Rattle.pts_tree.specs.declared.expr.ChainPart.{ChainPart}
use Rattle.pts_tree.specs.declared.expr.Expr.{Expr}
use Rattle.pts_rules.specs.declared.meaning.Meaning.{Meaning}
use Rattle.pts_rules.specs.declared.meaning.Meaning.TheVariants as meanings
use Rattle.pts_rules.specs.Known.{Scope}
use Rattle.pts_code.specs.declared.code.Code.{Code}
use Rattle.pts_code.specs.declared.code.Step.{Step}
use Rattle.pts_code.specs.declared.compiling.Spot.{Spot}
use Rattle.pts_code.specs.declared.compiling.Spot.TheVariants as places
use Rattle.pts_code.specs.declared.function.FunctionInfo.{FunctionInfo}
use Rattle.pts_code.specs.Codes.{Sight, gives, local, functions_of}
use Rattle.pts_code.specs.Functions.{scope_of, gives_of}
use Rattle.pts_code.specs.Outcomes.{Outcome, Operation}
use Rattle.pts_code.specs.Values.{Bound, Local, Array, Function, Environment, Part, note, noted, operations, valuation, value_of, at_kinds, truths}

-- what the rules know of a name
abbrev pub meaning_of_bound : Bound → Meaning
meaning_of_bound (Local kind outcome) = meanings.Value kind
meaning_of_bound (Array kind) = meanings.Array kind (pos 0)
meaning_of_bound (Function f) = meanings.Function (record { params = f.params; kind = f.kind; depth = 0; size = 0 })

-- the scope of an environment
abbrev pub scope_of_names : Environment → Scope
scope_of_names env = map (λ entry. (entry.0, meaning_of_bound entry.1)) env

abbrev pub is_local : Bound → Bool
is_local (Local kind outcome) = true
is_local _ = false

abbrev pub is_function : Bound → Bool
is_function (Function f) = true
is_function _ = false

-- how many local values an environment has, and how many functions
abbrev pub locals : Environment → ℕ
locals env = count_by (λ entry. is_local entry.1) env

abbrev pub functions : Environment → ℕ
functions env = count_by (λ entry. is_function entry.1) env

-- where the local value of this number stands; those that have no spot of their own stand in the frame at their numbers
abbrev pub spot_of : List Spot → ℕ → Spot
spot_of spots number = unwrap_or (slice_get spots number) (places.Local number)

-- what stands at a spot
abbrev pub at_spot : Sight → Spot → Outcome
at_spot sight (places.Local place) = local sight.values place
at_spot sight (places.Note place) = note sight.notes place

-- each local value stands at its spot, and each function at its number
abbrev pub Holds : Sight → List Spot → Environment → Type 0
Holds sight spots [] = ⊤
Holds sight spots ((name, Local kind outcome) ∷ env) = (at_spot sight (spot_of spots (locals env)) ≡ outcome) × Holds sight spots env
Holds sight spots ((name, Array kind) ∷ env) = Holds sight spots env
Holds sight spots ((name, Function f) ∷ env) = (slice_get sight.functions (functions env) ≡ Some f.gives) × (length f.params ≤ 8) × Holds sight spots env

-- in each environment of the scope the code gives what is wanted
pub record Means {A : Type 0} (scope : Scope) (spots : List Spot) (wanted : Environment → Sight → A) (had : Sight → A) : Type 0 where
  pub means : (env : Environment) (sight : Sight) → scope ≡ scope_of_names env → Holds sight spots env → had sight ≡ wanted env sight

-- the code of an expression at a kind, whose elements are noted from this place on
abbrev pub IsCode : Scope → List Spot → Kind → ℕ → Expr → Code → Type 0
IsCode scope spots kind first x code = Means scope spots (λ env sight. value_of env (noted sight.notes) kind first x) (λ sight. gives sight code)

-- the codes of the arguments of a call, each at the kind of its parameter
abbrev pub AreArguments : Scope → List Spot → List Kind → ℕ → List Expr → List Code → Type 0
AreArguments scope spots kinds first xs codes =
    Means scope spots (λ env sight. at_kinds kinds (map (valuation env (noted sight.notes)) xs) first) (λ sight. map (gives sight) codes)

-- the codes of truths
abbrev pub AreTruths : Scope → List Spot → ℕ → List Expr → List Code → Type 0
AreTruths scope spots first xs codes = Means scope spots (λ env sight. truths (map (valuation env (noted sight.notes)) xs) first) (λ sight. map (gives sight) codes)

-- an operator and its operand
abbrev pub part_of : Environment → Sight → ChainPart → Part
part_of env sight part = (part.op, valuation env (noted sight.notes) part.operand)

abbrev pub step_at : Sight → Step → Operation
step_at sight step = (step.op, gives sight step.operand)

-- the steps of a chain
abbrev pub AreSteps : Scope → List Spot → Kind → ℕ → List ChainPart → List Step → Type 0
AreSteps scope spots kind first parts steps =
    Means scope spots (λ env sight. operations kind (map (part_of env sight) parts) first) (λ sight. map (step_at sight) steps)

-- a count that stops at the greatest number
abbrev pub capped : ℕ → ℕ
capped n = min n (2 ^ 64 - 1)

-- ---- functions

abbrev pub has_few : FunctionInfo → Bool
has_few f = nat_le (length f.params) 8

-- codes that give what their functions give, and the scope of the names of these
pub record IsCompiled (infos : List FunctionInfo) (codes : List Code) (scope : Scope) : Type 0 where
  pub named : scope ≡ scope_of infos
  pub same : functions_of codes ≡ gives_of infos
  pub few : IsTrue (list_all has_few infos)
