-- Arithmetic on values, exact in whole numbers without bound.
use Rattle.std.specs.Prelude.{⊤, ℕ, ◌<◌, ◌≤ℤ◌, ◌+◌, ◌-◌, ◌*◌, ◌/◌, ◌%◌, ◌^◌, min, max, Bool, not, ◌&&◌, ◌==◌, nat_lt, nat_le, ℤ, pos, negsuc, ◌+ℤ◌, ◌-ℤ◌, ◌*ℤ◌, neg_ℤ, int_lt, int_le, int_div, int_rem, bit_and, bit_or, bit_xor, if◌then◌else◌, Result, Ok, Err}
use Rattle.std.specs.Int.{int_min, int_max}
use Rattle.std.specs.Ordering.{int_eq}
use Rattle.pts_types.specs.declared.operation.ScalarOp.{ScalarOp}
use Rattle.pts_types.specs.declared.operation.ScalarOp.TheVariants.{Plus, Minus, Multiplies, Divides, Modulus, BitAnd, BitOr, BitXor, Min, Max, Less, LessEqual, Greater, GreaterEqual, Equal, NotEqual}
use Rattle.pts_types.specs.declared.value.Kind.{Kind}
use Rattle.pts_types.specs.declared.value.Kind.TheVariants as kinds
use Rattle.pts_types.specs.declared.value.Thrown.{Thrown}
use Rattle.pts_types.specs.declared.value.Thrown.TheVariants.{Overflow, DivZero}
use Rattle.pts_types.specs.declared.value.Value.{Value}
use Rattle.pts_types.specs.declared.value.Value.TheVariants as values
use Rattle.pts_types.specs.declared.value.Value.TheVariants.{I64, U64}

-- ---- the range of i64

abbrev pub least_i64 : ℤ
least_i64 = neg_ℤ (pos (2 ^ 63))

abbrev pub greatest_i64 : ℤ
greatest_i64 = pos (2 ^ 63 - 1)

-- ---- kinds

abbrev pub kind_of : Value → Kind
kind_of (I64 z) = kinds.I64
kind_of (U64 n) = kinds.U64
kind_of (values.Bool b) = kinds.Bool

-- a value of this kind, in the range of the kind
abbrev pub IsValueOf : Kind → Value → Type 0
IsValueOf kinds.I64 (I64 z) = (least_i64 ≤ℤ z) × (z ≤ℤ greatest_i64)
IsValueOf kinds.U64 (U64 n) = n < 2 ^ 64
IsValueOf kinds.Bool (values.Bool b) = ⊤
IsValueOf kind value = ⊥

-- what an evaluation at this kind gives: a value of the kind, or a throw
abbrev pub GivesKind : Kind → Result Value Thrown → Type 0
GivesKind kind (Ok value) = IsValueOf kind value
GivesKind kind (Err thrown) = ⊤

-- one of the two operations that values of kind bool have
abbrev pub IsEquality : ScalarOp → Type 0
IsEquality Equal = Unit {0}
IsEquality NotEqual = Unit {0}
IsEquality op = ⊥

-- one of the seven operations that a reduction may name
abbrev pub IsReduction : ScalarOp → Type 0
IsReduction Plus = Unit {0}
IsReduction Multiplies = Unit {0}
IsReduction BitAnd = Unit {0}
IsReduction BitOr = Unit {0}
IsReduction BitXor = Unit {0}
IsReduction Min = Unit {0}
IsReduction Max = Unit {0}
IsReduction op = ⊥

-- ---- numbers of i64

-- a whole number as a value of kind i64, which overflows out of the range
abbrev pub exact : ℤ → Result Value Thrown
exact z = if int_le least_i64 z && int_le z greatest_i64 then Ok (I64 z) else Err Overflow

-- an i64 modulo 2^64, and the i64 that is n modulo 2^64: two's complement and back
abbrev pub unsigned_of : ℤ → ℕ
unsigned_of (pos n) = n
unsigned_of (negsuc n) = 2 ^ 64 - (n + 1)

abbrev pub signed_of : ℕ → ℤ
signed_of n = if nat_lt n (2 ^ 63) then pos n else pos n -ℤ pos (2 ^ 64)

-- ---- operations

-- the sum of two numbers of kind u64 as the kind keeps it
abbrev pub sum_u64 : ℕ → ℕ → ℕ
sum_u64 m n = (m + n) % 2 ^ 64

-- an operation on two numbers of kind u64: modulo 2^64, and without a value where the divisor is 0
abbrev pub u64_under : ScalarOp → ℕ → ℕ → Result Value Thrown
u64_under Plus m n = Ok (U64 (sum_u64 m n))
u64_under Minus m n = Ok (U64 ((m + (2 ^ 64 - n)) % 2 ^ 64))
u64_under Multiplies m n = Ok (U64 (m * n % 2 ^ 64))
u64_under Divides m n = if n == 0 then Err DivZero else Ok (U64 (m / n))
u64_under Modulus m n = if n == 0 then Err DivZero else Ok (U64 (m % n))
u64_under BitAnd m n = Ok (U64 (bit_and m n))
u64_under BitOr m n = Ok (U64 (bit_or m n))
u64_under BitXor m n = Ok (U64 (bit_xor m n))
u64_under Min m n = Ok (U64 (min m n))
u64_under Max m n = Ok (U64 (max m n))
u64_under Less m n = Ok (values.Bool (nat_lt m n))
u64_under LessEqual m n = Ok (values.Bool (nat_le m n))
u64_under Greater m n = Ok (values.Bool (nat_lt n m))
u64_under GreaterEqual m n = Ok (values.Bool (nat_le n m))
u64_under Equal m n = Ok (values.Bool (m == n))
u64_under NotEqual m n = Ok (values.Bool (not (m == n)))

-- what a division of x by y gives where it has a value ([expr.mul] of C++17)
abbrev pub divided : ℤ → ℤ → ℤ → Result Value Thrown
divided x y value =
    if int_eq y (pos 0)
    then Err DivZero
    else if int_eq x least_i64 && int_eq y (neg_ℤ (pos 1)) then Err Overflow else Ok (I64 value)

-- an operation on two numbers of kind i64: the quotient is rounded towards zero, and the remainder has the dividend's sign
abbrev pub i64_under : ScalarOp → ℤ → ℤ → Result Value Thrown
i64_under Plus x y = exact (x +ℤ y)
i64_under Minus x y = exact (x -ℤ y)
i64_under Multiplies x y = exact (x *ℤ y)
i64_under Divides x y = divided x y (int_div x y)
i64_under Modulus x y = divided x y (int_rem x y)
i64_under BitAnd x y = Ok (I64 (signed_of (bit_and (unsigned_of x) (unsigned_of y))))
i64_under BitOr x y = Ok (I64 (signed_of (bit_or (unsigned_of x) (unsigned_of y))))
i64_under BitXor x y = Ok (I64 (signed_of (bit_xor (unsigned_of x) (unsigned_of y))))
i64_under Min x y = Ok (I64 (int_min x y))
i64_under Max x y = Ok (I64 (int_max x y))
i64_under Less x y = Ok (values.Bool (int_lt x y))
i64_under LessEqual x y = Ok (values.Bool (int_le x y))
i64_under Greater x y = Ok (values.Bool (int_lt y x))
i64_under GreaterEqual x y = Ok (values.Bool (int_le y x))
i64_under Equal x y = Ok (values.Bool (int_eq x y))
i64_under NotEqual x y = Ok (values.Bool (not (int_eq x y)))

abbrev pub bool_eq : Bool → Bool → Bool
bool_eq a b = if a then b else not b

-- an operation on two truths, which have the two equalities alone
abbrev pub bool_under : ScalarOp → Bool → Bool → Bool
bool_under NotEqual a b = not (bool_eq a b)
bool_under op a b = bool_eq a b

-- an operation on two values of one kind; two values of different kinds have none, and the first stands for it
abbrev pub value_under : ScalarOp → Value → Value → Result Value Thrown
value_under op (U64 m) (U64 n) = u64_under op m n
value_under op (I64 x) (I64 y) = i64_under op x y
value_under op (values.Bool a) (values.Bool b) = Ok (values.Bool (bool_under op a b))
value_under op x y = Ok x

-- unary minus on an i64; values of other kinds have none, and stand for it
abbrev pub negated : Value → Result Value Thrown
negated (I64 z) = exact (neg_ℤ z)
negated value = Ok value

-- ---- conversions

abbrev pub number_of : Bool → ℕ
number_of b = if b then 1 else 0

-- a value in another kind: modulo 2^64 in u64, exact in i64, and "is not 0" in bool
abbrev pub converted : Kind → Value → Result Value Thrown
converted kinds.U64 (U64 n) = Ok (U64 n)
converted kinds.U64 (I64 z) = Ok (U64 (unsigned_of z))
converted kinds.U64 (values.Bool b) = Ok (U64 (number_of b))
converted kinds.I64 (U64 n) = exact (pos n)
converted kinds.I64 (I64 z) = Ok (I64 z)
converted kinds.I64 (values.Bool b) = Ok (I64 (pos (number_of b)))
converted kinds.Bool (U64 n) = Ok (values.Bool (not (n == 0)))
converted kinds.Bool (I64 z) = Ok (values.Bool (not (int_eq z (pos 0))))
converted kinds.Bool (values.Bool b) = Ok (values.Bool b)

-- ---- identities

-- what an accumulator of one of the seven operations begins with, where the variable has the value `live`
abbrev pub identity_of : ScalarOp → Value → Value
identity_of Min live = live
identity_of Max live = live
identity_of Multiplies (U64 n) = U64 1
identity_of Multiplies (I64 z) = I64 (pos 1)
identity_of BitAnd (U64 n) = U64 (2 ^ 64 - 1)
identity_of BitAnd (I64 z) = I64 (neg_ℤ (pos 1))
identity_of op (U64 n) = U64 0
identity_of op (I64 z) = I64 (pos 0)
identity_of op live = live
