-- That expressions give values of their kinds.
use Rattle.std.specs.List.{list_all}
use Rattle.std.specs.Prelude.{⊤, IsTrue, ℕ, ◌+◌, Bool, true, false, not, ◌&&◌, is_some, Option, Some, List, [], ◌∷◌}
use Rattle.pts_types.specs.Arithmetic.{GivesKind, IsValueOf}
use Rattle.pts_types.specs.declared.operation.ScalarOp.{ScalarOp}
use Rattle.pts_types.specs.declared.value.Kind.{Kind}
use Rattle.pts_types.specs.declared.value.Value.{Value}
use Rattle.pts_tree.specs.Expressions.{compare_mark}
use Rattle.pts_tree.specs.declared.expr.Expr.{Expr}
use Rattle.pts_tree.specs.declared.expr.Expr.TheOpen.{Expr-F}
use Rattle.pts_tree.specs.declared.expr.Expr.TheFolds.{fold-Expr}
use Rattle.pts_rules.specs.Kinds.{fits}
use Rattle.pts_rules.specs.Known.{Scope}
use Rattle.pts_rules.specs.Parts.{Name}
use Rattle.pts_code.specs.declared.function.FunctionInfo.{FunctionInfo}
use Rattle.pts_code.specs.Compiling.{scope_of_names}
use Rattle.pts_code.specs.Functions.{body_scope, with_signature}
use Rattle.pts_code.specs.Outcomes.{Outcome}
use Rattle.pts_code.specs.Values.{Bound, Local, Array, Function, Environment, Reads, bound_to, valuation}

-- ---- operators

-- "==", "!=", "<", "<=", ">" or ">="
abbrev pub is_comparison : ScalarOp → Bool
is_comparison op = is_some (compare_mark op)

-- one case for each form, with what holds of its parts in their places
abbrev pub operators_step : Expr-F Bool Bool → Bool
operators_step (Expr-F.Call name xs) = list_all (λ right. right) xs
operators_step (Expr-F.Element name x) = x
operators_step (Expr-F.Convert to x) = x
operators_step (Expr-F.Paren x) = x
operators_step (Expr-F.Minus x) = x
operators_step (Expr-F.Not x) = x
operators_step (Expr-F.Chain x xs) = x && list_all (λ right. right) xs
operators_step (Expr-F.Compare op x y) = is_comparison op && (x && y)
operators_step (Expr-F.All xs) = list_all (λ right. right) xs
operators_step (Expr-F.Any xs) = list_all (λ right. right) xs
operators_step (Expr-F.If x y z) = x && (y && z)
operators_step _ = true

-- no chain has an operator that compares, and each comparison has one; so it is of every expression that the grammar spells
unfoldable pub operators_right : Expr → Bool
operators_right = fold-Expr Bool Bool operators_step (λ part. not (is_comparison part.op) && part.operand)

-- ---- what gives values of kinds

-- a value of each of these kinds, in order
abbrev pub AreOfKinds : List Kind → List Value → Type 0
AreOfKinds [] [] = ⊤
AreOfKinds (kind ∷ kinds) (value ∷ values) = IsValueOf kind value × AreOfKinds kinds values
AreOfKinds _ _ = ⊥

-- a local value of its kind, or a throw; a function that gives its kind or throws for arguments of its kinds
abbrev pub HasItsKind : Bound → Type 0
HasItsKind (Local kind outcome) = GivesKind kind outcome
HasItsKind (Array kind) = ⊤
HasItsKind (Function f) = (arguments : List Value) → AreOfKinds f.params arguments → GivesKind f.kind (f.gives arguments)

-- so has each name
abbrev pub HaveTheirKinds : Environment → Type 0
HaveTheirKinds [] = ⊤
HaveTheirKinds (entry ∷ env) = HasItsKind entry.1 × HaveTheirKinds env

-- an element of the kind of its array, or a throw
abbrev pub IsElementOf : Option Bound → Outcome → Type 0
IsElementOf (Some (Array kind)) outcome = GivesKind kind outcome
IsElementOf _ outcome = ⊤

-- the elements of these arrays, by their numbers from n on
abbrev pub AreElementsOf : Environment → List Name → Reads → ℕ → Type 0
AreElementsOf env [] reads n = ⊤
AreElementsOf env (name ∷ names) reads n = IsElementOf (bound_to env name) (reads.outcome n) × AreElementsOf env names reads (n + 1)

-- An expression whose place asks this kind, by the rules and in the scope of an environment whose names have their kinds.
-- `elements` says whether elements may be read at its place; where they may, they are of the kinds of their arrays.
pub record HasKind (elements : Bool) (env : Environment) (reads : Reads) (kind : Kind) (n : ℕ) (x : Expr) : Type 0 where
  pub names : HaveTheirKinds env
  pub fits : IsTrue (fits elements (scope_of_names env) kind x)
  pub operators : IsTrue (operators_right x)
  pub reads_right : IsTrue elements → AreElementsOf env (valuation env reads x).elements reads n

-- the body of each function has the kind of its function, where it may call those before it
abbrev pub HaveTypedBodies : Scope → List FunctionInfo → Type 0
HaveTypedBodies scope [] = ⊤
HaveTypedBodies scope (f ∷ fs) =
    IsTrue (fits false (body_scope scope f.params) f.kind f.body) × IsTrue (operators_right f.body) × HaveTypedBodies (with_signature scope f) fs
