-- The value of an expression of a program, where its local names and its elements have these values.
use Rattle.std.specs.Prelude.{◌≡◌, ◌+◌, ℕ, true, false, length, [], ◌∷◌, option_map, Option, Some, None, Ok, List, ◌++◌, map, take, slice_get}
use Rattle.pts_types.specs.Arithmetic.{kind_of}
use Rattle.pts_types.specs.declared.operation.ScalarOp.{ScalarOp}
use Rattle.pts_types.specs.declared.value.Kind.{Kind}
use Rattle.pts_types.specs.declared.value.Kind.TheVariants as kinds
use Rattle.pts_types.specs.declared.value.Value.{Value}
use Rattle.pts_tree.specs.declared.expr.ChainPart.{ChainPart}
use Rattle.pts_tree.specs.declared.expr.Expr.{Expr}
use Rattle.pts_code.specs.declared.function.FunctionInfo.{FunctionInfo}
use Rattle.pts_code.specs.Functions.{environment_of, function_value}
use Rattle.pts_code.specs.Outcomes.{Outcome, choice, from_left}
use Rattle.pts_code.specs.Soundness.{HasKind}
use Rattle.pts_code.specs.Values.{Bound, Array, Function, Environment, Part, Valuation, listed, numbers, sides_kind, valuation}
use Rattle.pts_code.specs.Values as values
use Rattle.pts_program.specs.declared.info.ArrayInfo.{ArrayInfo}
use Rattle.pts_program.specs.declared.lists.Lists.{Lists}
use Rattle.pts_eval.specs.declared.expressions.Found.{Found}
use Rattle.pts_eval.specs.declared.expressions.Found.TheVariants as found
use Rattle.pts_eval.specs.declared.expressions.Local.{Local}
use Rattle.pts_eval.specs.declared.expressions.Names.{Names}

-- ---- what names stand for

-- a local value
abbrev pub local_bound : Value → Bound
local_bound value = values.Local (kind_of value) (Ok value)

-- these local values by their names
abbrev pub local_names : List Local → Environment
local_names locals = map (λ local. (local.name, local_bound local.value)) locals

-- these arrays, with the kinds of their elements
abbrev pub array_names : List ArrayInfo → Environment
array_names arrays = map (λ array. (array.name, Array array.kind)) arrays

-- these local values, and the arrays and functions of a program
abbrev pub environment : Lists → List Local → Environment
environment program locals = local_names locals ++ (array_names program.arrays ++ environment_of program.functions)

-- The condition of an evaluation: the names of the expression are resolved, `kind` is its kind, the local values have the
-- kinds of their names, as the functions of the program have theirs, and `reads` holds one entry for each element that stands
-- in no index, in text order and of the element's kind.
pub record IsEvaluable (program : Lists) (locals : List Local) (reads : List Outcome) (kind : Kind) (x : Expr) : Type 0 where
  pub expression : HasKind true (environment program locals) (listed reads) kind 0 x
  pub entries : length reads ≡ numbers false x

-- ---- what the evaluation goes by

-- a function by its number
abbrev pub function_bound : List FunctionInfo → ℕ → Option Bound
function_bound functions n = option_map (λ f. Function (function_value (environment_of (take n functions)) f)) (slice_get functions n)

-- what was found for a name, where these are the functions
abbrev pub bound_of : List FunctionInfo → Found → Option Bound
bound_of functions (found.Local value) = Some (local_bound value)
bound_of functions (found.Array kind) = Some (Array kind)
bound_of functions (found.Function n) = function_bound functions n
bound_of functions found.Nothing = None

-- the names of an evaluation
abbrev pub names_of : Names → Environment
names_of names = environment names.program.now names.locals.now

-- an expression among these names
abbrev pub valued : Names → Expr → Valuation
valued names x = valuation (names_of names) (listed names.reads.now) x

-- what it gives at a kind, where the first of its elements has this number
abbrev pub given : Names → Kind → ℕ → Expr → Outcome
given names kind first x = (valued names x).value kind first

-- an operator of a chain and its operand
abbrev pub part_of : Names → ChainPart → Part
part_of names part = (part.op, valued names part.operand)

-- a comparison: its left side, then its right one, both at one kind
abbrev pub compared : Names → ℕ → ScalarOp → Expr → Expr → Outcome
compared names first op x y =
    let kind = sides_kind (valued names x) (valued names y) in
    from_left (given names kind first x) ((op, given names kind (first + numbers false x) y) ∷ [])

-- one branch
abbrev pub chosen : Names → Kind → ℕ → Expr → Expr → Expr → Outcome
chosen names kind first x y z =
    choice (given names kinds.Bool first x) (given names kind (first + numbers false x) y) (given names kind (first + numbers false x + numbers false y) z)
