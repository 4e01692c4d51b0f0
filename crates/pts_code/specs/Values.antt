-- The value of an expression.
use Rattle.std.specs.Option.{option_or}
use Rattle.std.specs.Prelude.{ℕ, ◌+◌, Bool, true, false, min, if◌then◌else◌, unwrap_or, Option, Some, None, Ok, Err, List, [], ◌∷◌, ◌++◌, length, map, slice_get, ℤ, pos, neg_ℤ}
use Rattle.std.specs.Ordering.{int_eq}
use Rattle.std.specs.Str.{bytes_eq}
use Rattle.pts_types.specs.Arithmetic.{converted, negated}
use Rattle.pts_types.specs.declared.operation.ScalarOp.{ScalarOp}
use Rattle.pts_types.specs.declared.value.Kind.{Kind}
use Rattle.pts_types.specs.declared.value.Kind.TheVariants as kinds
use Rattle.pts_types.specs.declared.value.Thrown.TheVariants as throws
use Rattle.pts_types.specs.declared.value.Value.{Value}
use Rattle.pts_types.specs.declared.value.Value.TheVariants as values
use Rattle.pts_tree.specs.declared.expr.Expr.{Expr}
use Rattle.pts_tree.specs.declared.expr.Expr.TheOpen.{Expr-F}
use Rattle.pts_tree.specs.declared.expr.Expr.TheFolds.{fold-Expr}
use Rattle.pts_rules.specs.Counts.{reads_step}
use Rattle.pts_rules.specs.Known.{holds, natural}
use Rattle.pts_rules.specs.Parts.{Name}
use Rattle.pts_code.specs.Outcomes.{Outcome, Gives, Operation, and_then, never, inverted, in_order, from_left, all_of, any_of, choice}

-- ---- what names stand for

-- a function as those that call it see it
pub record FunctionValue : Type 0 where
  pub params : List Kind
  pub kind : Kind
  pub gives : Gives

-- a parameter or a local value with its kind and what it gives, an array with the kind of its elements, or a function;
-- a local value that stands for a fault throws it where it is taken
pub data Bound : Type 0 where
  Local : (kind : Kind) (outcome : Outcome) → Bound
  Array : (kind : Kind) → Bound
  Function : (function : FunctionValue) → Bound

-- the names that an expression may use, and what they stand for
abbrev pub Environment : Type 0
Environment = List (Name × Bound)

-- what a name stands for
abbrev pub bound_to : Environment → Name → Option Bound
bound_to [] name = None
bound_to (entry ∷ env) name = if bytes_eq name entry.0 then Some entry.1 else bound_to env name

-- ---- elements

-- The elements of an expression have numbers, one behind the other in text order. What each gave when it was read stands
-- under its number; a throw among them counts only where the element is taken. `indices` says whether the elements inside
-- of an index have numbers as well: an element then stands directly behind those of its index.
pub record Reads : Type 0 where
  pub indices : Bool
  pub outcome : ℕ → Outcome

-- the note of this number; where there is none, which no expression that keeps the rules takes, any outcome may stand
abbrev pub note : List (Option Outcome) → ℕ → Outcome
note notes n = unwrap_or (unwrap_or (slice_get notes n) None) never

-- each element by the note of its own point
abbrev pub noted : List (Option Outcome) → Reads
noted notes = record { indices = true; outcome = note notes }

-- the elements that stand in no index, in text order
abbrev pub listed : List Outcome → Reads
listed outcomes = record { indices = false; outcome = λ n. unwrap_or (slice_get outcomes n) never }

-- no elements
abbrev pub no_reads : Reads
no_reads = noted []

-- the numbers that the elements of an index take, where there are this many
abbrev pub inside : Bool → ℕ → ℕ
inside indices n = if indices then n else 0

abbrev pub numbers_step : Bool → Expr-F ℕ ℕ → ℕ
numbers_step indices (Expr-F.Element name x) = 1 + inside indices x
numbers_step indices x = reads_step x

-- how many numbers the elements of an expression take
unfoldable pub numbers : Bool → Expr → ℕ
numbers indices = fold-Expr ℕ ℕ (numbers_step indices) (λ part. part.operand)

-- ---- expressions

-- an expression by its literal number (a NUMBER alone), its own kind (none where it is bare), the arrays of its elements in
-- the order of their numbers, and what it gives at the kind that its place asks, where the first of its elements has this
-- number
pub record Valuation : Type 0 where
  pub literal : Option ℤ
  pub own : Option Kind
  pub elements : List Name
  pub value : Kind → ℕ → Outcome

-- how many numbers it takes
abbrev pub count : Valuation → ℕ
count x = length x.elements

-- a bare expression without elements
abbrev pub bare : (Kind → Outcome) → Valuation
bare value = record { literal = None; own = None; elements = []; value = λ asked n. value asked }

-- an expression of this kind with these elements
abbrev pub of_kind : Kind → List Name → (ℕ → Outcome) → Valuation
of_kind kind elements value = record { literal = None; own = Some kind; elements = elements; value = λ asked n. value n }

-- what no expression that keeps the rules is
abbrev pub unknown : List Name → Valuation
unknown elements = record { literal = None; own = None; elements = elements; value = λ asked n. never }

-- the value of a kind with this number, which is one of the kind
abbrev pub value_with : Kind → ℤ → Value
value_with kinds.I64 z = values.I64 z
value_with kinds.U64 z = values.U64 (natural z)
value_with kinds.Bool z = values.Bool (int_eq z (pos 1))

-- a number at a kind; in place of one that the kind does not hold, which no expression that keeps the rules has, stands 0
abbrev pub number_value : Kind → ℤ → Value
number_value kind z = value_with kind (if holds kind z then z else pos 0)

-- a number by itself
abbrev pub literal_of : ℤ → Valuation
literal_of z = record { literal = Some z; own = None; elements = []; value = λ asked n. Ok (number_value asked z) }

-- the code of a `throw`; the rules let no code beyond 999 through
abbrev pub throw_code : ℕ → ℕ
throw_code n = min n 999

-- a local value is what it gives
abbrev pub name_valuation : Option Bound → Valuation
name_valuation (Some (Local kind outcome)) = of_kind kind [] (λ n. outcome)
name_valuation _ = unknown []

-- the arrays of the elements of an index and of the element behind them
abbrev pub element_arrays : Bool → Name → Valuation → List Name
element_arrays indices name x = (if indices then x.elements else []) ++ name ∷ []

-- an element has the kind of its array, and is what it gave when it was read
abbrev pub element_valuation : Reads → Name → Option Bound → Valuation → Valuation
element_valuation reads name (Some (Array kind)) x = of_kind kind (element_arrays reads.indices name x) (λ n. reads.outcome (n + inside reads.indices (count x)))
element_valuation reads name _ x = unknown (element_arrays reads.indices name x)

-- `-` before a number is one number; before anything else it is an operation on an `i64`
abbrev pub minus_valuation : Valuation → Option ℤ → Valuation
minus_valuation x (Some z) = record { literal = None; own = None; elements = x.elements; value = λ asked n. Ok (number_value asked (neg_ℤ z)) }
minus_valuation x None = of_kind kinds.I64 x.elements (λ n. and_then (x.value kinds.I64 n) negated)

-- the kind of the first that is not bare
abbrev pub first_kind : List Valuation → Option Kind
first_kind [] = None
first_kind (x ∷ xs) = option_or x.own (first_kind xs)

-- the arrays of the elements of each, one behind the other
abbrev pub elements_of : List Valuation → List Name
elements_of [] = []
elements_of (x ∷ xs) = x.elements ++ elements_of xs

-- an operator and its operand
abbrev pub Part : Type 0
Part = ScalarOp × Valuation

abbrev pub operands : List Part → List Valuation
operands parts = map (λ part. part.1) parts

-- the operations of a chain, at one kind, where the first element has this number
abbrev pub operations : Kind → List Part → ℕ → List Operation
operations kind [] n = []
operations kind (part ∷ parts) n = (part.0, part.1.value kind n) ∷ operations kind parts (n + count part.1)

-- a chain: its first operand, then for each part the operand and at once the operation, all of one kind
abbrev pub chain_valuation : Valuation → List Part → Valuation
chain_valuation x parts = record {
  literal = None;
  own = first_kind (x ∷ operands parts);
  elements = x.elements ++ elements_of (operands parts);
  value = λ asked n. from_left (x.value asked n) (operations asked parts (n + count x));
}

-- the two sides of a comparison have one kind, `u64` where both are bare
abbrev pub sides_kind : Valuation → Valuation → Kind
sides_kind x y = unwrap_or (option_or x.own y.own) kinds.U64

-- a comparison: its left side, then its right one and at once the operation
abbrev pub compare_valuation : ScalarOp → Valuation → Valuation → Kind → Valuation
compare_valuation op x y kind = of_kind kinds.Bool (x.elements ++ y.elements) (λ n. from_left (x.value kind n) ((op, y.value kind (n + count x)) ∷ []))

-- arguments, each at the kind of its parameter
abbrev pub at_kinds : List Kind → List Valuation → ℕ → List Outcome
at_kinds (kind ∷ kinds) (x ∷ xs) n = x.value kind n ∷ at_kinds kinds xs (n + count x)
at_kinds _ _ n = []

-- a call: its arguments in order, then the function
abbrev pub call_valuation : Option Bound → List Valuation → Valuation
call_valuation (Some (Function f)) xs = of_kind f.kind (elements_of xs) (λ n. and_then (in_order (at_kinds f.params xs n)) f.gives)
call_valuation _ xs = unknown (elements_of xs)

-- each at kind `bool`
abbrev pub truths : List Valuation → ℕ → List Outcome
truths [] n = []
truths (x ∷ xs) n = x.value kinds.Bool n ∷ truths xs (n + count x)

-- one branch
abbrev pub if_valuation : Valuation → Valuation → Valuation → Valuation
if_valuation x y z = record {
  literal = None;
  own = first_kind (y ∷ z ∷ []);
  elements = x.elements ++ (y.elements ++ z.elements);
  value = λ asked n. choice (x.value kinds.Bool n) (y.value asked (n + count x)) (z.value asked (n + count x + count y));
}

-- one case for each form of expression
abbrev pub valuation_step : Environment → Reads → Expr-F Valuation Part → Valuation
valuation_step env reads (Expr-F.Number n) = literal_of (pos n)
valuation_step env reads Expr-F.True = of_kind kinds.Bool [] (λ n. Ok (values.Bool true))
valuation_step env reads Expr-F.False = of_kind kinds.Bool [] (λ n. Ok (values.Bool false))
valuation_step env reads (Expr-F.Name name) = name_valuation (bound_to env name)
valuation_step env reads (Expr-F.Call name xs) = call_valuation (bound_to env name) xs
valuation_step env reads (Expr-F.Element name x) = element_valuation reads name (bound_to env name) x
valuation_step env reads (Expr-F.Convert to x) = of_kind to x.elements (λ n. and_then (x.value (unwrap_or x.own to) n) (converted to))
valuation_step env reads (Expr-F.Throw n) = bare (λ asked. Err (throws.Code (throw_code n)))
valuation_step env reads (Expr-F.Paren x) = record x { literal = None }
valuation_step env reads (Expr-F.Minus x) = minus_valuation x x.literal
valuation_step env reads (Expr-F.Not x) = of_kind kinds.Bool x.elements (λ n. and_then (x.value kinds.Bool n) (λ value. Ok (inverted value)))
valuation_step env reads (Expr-F.Chain x parts) = chain_valuation x parts
valuation_step env reads (Expr-F.Compare op x y) = compare_valuation op x y (sides_kind x y)
valuation_step env reads (Expr-F.All xs) = of_kind kinds.Bool (elements_of xs) (λ n. all_of (truths xs n))
valuation_step env reads (Expr-F.Any xs) = of_kind kinds.Bool (elements_of xs) (λ n. any_of (truths xs n))
valuation_step env reads (Expr-F.If x y z) = if_valuation x y z

-- an expression in an environment, with what its elements gave
unfoldable pub valuation : Environment → Reads → Expr → Valuation
valuation env reads = fold-Expr Valuation Part (valuation_step env reads) (λ part. (part.op, part.operand))

-- the value of an expression at the kind that its place asks, or what it throws first; the first of its elements has number n
abbrev pub value_of : Environment → Reads → Kind → ℕ → Expr → Outcome
value_of env reads kind n x = (valuation env reads x).value kind n
