-- Laws of the operations on values of one kind.
use Rattle.std.specs.Prelude.{◌≡◌, ◌≤ℤ◌, Result, Ok, Err}
use Rattle.pts_types.specs.Arithmetic.{value_under, least_i64, greatest_i64}
use Rattle.pts_types.specs.declared.operation.ScalarOp.{ScalarOp}
use Rattle.pts_types.specs.declared.operation.ScalarOp.TheVariants.{BitAnd, BitOr, BitXor, Min, Max}
use Rattle.pts_types.specs.declared.value.Thrown.{Thrown}
use Rattle.pts_types.specs.declared.value.Value.{Value}
use Rattle.pts_types.specs.declared.value.Value.TheVariants as values

-- a value of kind u64
abbrev pub IsU64 : Value → Type 0
IsU64 (values.U64 n) = Unit {0}
IsU64 value = ⊥

-- a value of kind i64
abbrev pub IsI64 : Value → Type 0
IsI64 (values.I64 z) = (least_i64 ≤ℤ z) × (z ≤ℤ greatest_i64)
IsI64 value = ⊥

-- one of the five operations that may be grouped freely on i64, too
abbrev pub IsSelection : ScalarOp → Type 0
IsSelection BitAnd = Unit {0}
IsSelection BitOr = Unit {0}
IsSelection BitXor = Unit {0}
IsSelection Min = Unit {0}
IsSelection Max = Unit {0}
IsSelection op = ⊥

-- the next step on a value, unless it was thrown
abbrev pub and_then : Result Value Thrown → (Value → Result Value Thrown) → Result Value Thrown
and_then (Ok value) step = step value
and_then (Err thrown) step = Err thrown

-- (x op y) op z is x op (y op z), for any values of a kind
abbrev pub IsAssociative : (Value → Type 0) → ScalarOp → Type 0
IsAssociative HasKind op =
    (x y z : Value) → HasKind x → HasKind y → HasKind z
    → and_then (value_under op x y) (λ v. value_under op v z) ≡ and_then (value_under op y z) (λ v. value_under op x v)

-- x op y is y op x, for any values of a kind
abbrev pub IsCommutative : (Value → Type 0) → ScalarOp → Type 0
IsCommutative HasKind op = (x y : Value) → HasKind x → HasKind y → value_under op x y ≡ value_under op y x
