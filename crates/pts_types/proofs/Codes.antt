-- The arithmetic throws no code of a script.
use Rattle.std.proofs.Common.{◌≡◌, ◌≢◌, ℕ, ◌/◌, ◌%◌, Bool, true, false, cond, ℤ}
use Rattle.std.specs.Prelude.{Result, Ok, Err, pos, ◌+ℤ◌, ◌-ℤ◌, ◌*ℤ◌, int_div, int_rem}
use Rattle.pts_types.specs.Arithmetic.{exact, divided, u64_under, i64_under, value_under, converted}
use Rattle.pts_types.specs.declared.operation.ScalarOp.{ScalarOp}
use Rattle.pts_types.specs.declared.operation.ScalarOp.TheVariants.{Plus, Minus, Multiplies, Divides, Modulus}
use Rattle.pts_types.specs.declared.value.Kind.{Kind}
use Rattle.pts_types.specs.declared.value.Kind.TheVariants as kinds
use Rattle.pts_types.specs.declared.value.Thrown.{Thrown}
use Rattle.pts_types.specs.declared.value.Thrown.TheVariants.{Code, Overflow, DivZero}
use Rattle.pts_types.specs.declared.value.Value.{Value}
use Rattle.pts_types.specs.declared.value.Value.TheVariants as values
use Rattle.pts_types.specs.declared.value.Value.TheVariants.{U64, I64}

abbrev Throws : Result Value Thrown → ℕ → Type 0
Throws outcome code = outcome ≡ Err (Code code)

no-code : (value : Value) (code : ℕ) → ¬ Throws (Ok value) code
no-code value code h = cc

of_overflow : (code : ℕ) → ¬ Throws (Err Overflow) code
of_overflow code h = cc

of_zero : (code : ℕ) → ¬ Throws (Err DivZero) code
of_zero code h = cc

of_both : (b : Bool) (x y : Result Value Thrown) (code : ℕ) → ¬ Throws x code → ¬ Throws y code → ¬ Throws (cond b x y) code
of_both true x y code no-x no-y = no-x
of_both false x y code no-x no-y = no-y

exact-code : (z : ℤ) (code : ℕ) → ¬ Throws (exact z) code
exact-code z code = of_both _ _ _ code (no-code (I64 z) code) (of_overflow code)

divided-code : (x y z : ℤ) (code : ℕ) → ¬ Throws (divided x y z) code
divided-code x y z code = of_both _ _ _ code (of_zero code) (of_both _ _ _ code (of_overflow code) (no-code (I64 z) code))

u64-code : (op : ScalarOp) (m n code : ℕ) → ¬ Throws (u64_under op m n) code
u64-code Divides m n code = of_both _ _ _ code (of_zero code) (no-code (U64 (m / n)) code)
u64-code Modulus m n code = of_both _ _ _ code (of_zero code) (no-code (U64 (m % n)) code)
u64-code op m n code = λ h. cc

i64-code : (op : ScalarOp) (x y : ℤ) (code : ℕ) → ¬ Throws (i64_under op x y) code
i64-code Plus x y code = exact-code (x +ℤ y) code
i64-code Minus x y code = exact-code (x -ℤ y) code
i64-code Multiplies x y code = exact-code (x *ℤ y) code
i64-code Divides x y code = divided-code x y (int_div x y) code
i64-code Modulus x y code = divided-code x y (int_rem x y) code
i64-code op x y code = λ h. cc

pub operation-code : (op : ScalarOp) (x y : Value) (code : ℕ) → value_under op x y ≢ Err (Code code)
operation-code op (U64 m) (U64 n) code = u64-code op m n code
operation-code op (I64 x) (I64 y) code = i64-code op x y code
operation-code op (values.Bool a) (values.Bool b) code = λ h. cc
operation-code op (values.Bool a) (U64 n) code = λ h. cc
operation-code op (values.Bool a) (I64 y) code = λ h. cc
operation-code op (U64 m) y code = λ h. cc
operation-code op (I64 x) y code = λ h. cc

pub conversion-code : (to : Kind) (x : Value) (code : ℕ) → converted to x ≢ Err (Code code)
conversion-code kinds.I64 (U64 n) code = exact-code (pos n) code
conversion-code kinds.I64 (I64 z) code = λ h. cc
conversion-code kinds.I64 (values.Bool b) code = λ h. cc
conversion-code kinds.U64 (U64 n) code = λ h. cc
conversion-code kinds.U64 (I64 z) code = λ h. cc
conversion-code kinds.U64 (values.Bool b) code = λ h. cc
conversion-code kinds.Bool (U64 n) code = λ h. cc
conversion-code kinds.Bool (I64 z) code = λ h. cc
conversion-code kinds.Bool (values.Bool b) code = λ h. cc
