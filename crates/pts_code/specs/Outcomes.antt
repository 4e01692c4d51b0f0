-- What an evaluation gives: a value, or what was thrown first.
use Rattle.std.specs.Prelude.{Bool, not, true, false, if◌then◌else◌, Result, Ok, Err, List, [], ◌∷◌, fold}
use Rattle.pts_types.specs.Arithmetic.{value_under}
use Rattle.pts_types.specs.declared.operation.ScalarOp.{ScalarOp}
use Rattle.pts_types.specs.declared.value.Thrown.{Thrown}
use Rattle.pts_types.specs.declared.value.Value.{Value}
use Rattle.pts_types.specs.declared.value.Value.TheVariants as values

-- a value or a throw
abbrev pub Outcome : Type 0
Outcome = Result Value Thrown

-- what a function gives for its arguments
abbrev pub Gives : Type 0
Gives = List Value → Outcome

-- the next step on what was given, unless something was thrown
abbrev pub and_then : {A B : Type 0} → Result A Thrown → (A → Result B Thrown) → Result B Thrown
and_then (Ok x) step = step x
and_then (Err thrown) step = Err thrown

-- no expression that keeps the rules leads here, so that any outcome may stand here
abbrev pub never : Outcome
never = Ok (values.U64 0)

abbrev pub is_true : Value → Bool
is_true (values.Bool truth) = truth
is_true value = false

-- a truth turned round; values of other kinds have none, and stand for it
abbrev pub inverted : Value → Value
inverted (values.Bool truth) = values.Bool (not truth)
inverted value = value

-- outcomes in order, up to the first throw
abbrev pub in_order : List Outcome → Result (List Value) Thrown
in_order [] = Ok []
in_order (x ∷ xs) = and_then x (λ value. and_then (in_order xs) (λ rest. Ok (value ∷ rest)))

-- an operation and its operand
abbrev pub Operation : Type 0
Operation = ScalarOp × Outcome

-- the operand, and at once the operation on what was there before it
abbrev pub operate : Outcome → Operation → Outcome
operate so_far x = and_then so_far (λ before. and_then x.1 (λ operand. value_under x.0 before operand))

-- operations from the left
abbrev pub from_left : Outcome → List Operation → Outcome
from_left first xs = fold operate first xs

-- `&&`: what stands behind one that is false is not looked at
abbrev pub all_of : List Outcome → Outcome
all_of [] = Ok (values.Bool true)
all_of (x ∷ xs) = and_then x (λ value. if is_true value then all_of xs else Ok (values.Bool false))

-- `||`: what stands behind one that is true is not looked at
abbrev pub any_of : List Outcome → Outcome
any_of [] = Ok (values.Bool false)
any_of (x ∷ xs) = and_then x (λ value. if is_true value then Ok (values.Bool true) else any_of xs)

-- one branch
abbrev pub choice : Outcome → Outcome → Outcome → Outcome
choice test x y = and_then test (λ value. if is_true value then x else y)
