-- Operations on values of a kind give values of a kind.
use Rattle.std.proofs.Common.{◌≡◌, ◌≢◌, ℕ, zero, suc, ◌-◌, ◌/◌, ◌%◌, ◌^◌, ◌<◌, Bool, true, false, if◌then◌else◌, ◌&&◌, Ok, Err, ℤ, pos, negsuc, refl, sym, ◌∙◌, arith, bit_and, bit_or, bit_xor}
use Rattle.std.specs.Prelude.{◌≤ℤ◌, ◌+ℤ◌, ◌-ℤ◌, ◌*ℤ◌, neg_ℤ, int_le, int_div, int_rem, nat_abs, ◌==◌}
use Rattle.std.specs.Ordering.{int_eq}
use Rattle.std.specs.Int.{int_min, int_max}
use Rattle.std.specs.Int.Bits.{and_lt}
use Rattle.std.proofs.Math.Nat.{div-le_self, div-mul-le_self, mod-le}
use Rattle.std.proofs.lemmas.Int.{ints, clamps}
use Rattle.std.proofs.lemmas.Bool.Decides.{nat_tests}
use Rattle.std.proofs.lemmas.Nat.{or_lt, xor_lt}
use Rattle.pts_types.specs.Arithmetic.{GivesKind, IsValueOf, converted, divided, exact, greatest_i64, i64_under, least_i64, negated, signed_of, u64_under, unsigned_of, value_under}
use Rattle.pts_types.specs.declared.operation.ScalarOp.{ScalarOp}
use Rattle.pts_types.specs.declared.operation.ScalarOp.TheVariants as ops
use Rattle.pts_types.specs.declared.value.Kind.{Kind}
use Rattle.pts_types.specs.declared.value.Kind.TheVariants as kinds
use Rattle.pts_types.specs.declared.value.Thrown.TheVariants.{DivZero, Overflow}
use Rattle.pts_types.specs.declared.value.Value.{Value}
use Rattle.pts_types.specs.declared.value.Value.TheVariants as values
use Rattle.pts_types.proofs.Bitwise.{unsigned-lt}
use Rattle.pts_rules.specs.Known.{is_number}
use Rattle.pts_code.specs.Outcomes.{Outcome}
use Rattle.pts_code.specs.Soundness.{is_comparison}
use Rattle.pts_code.proofs.Truths.{and_left, and_right}

-- a number of i64
abbrev pub IsI64 : ℤ → Type 0
IsI64 z = (least_i64 ≤ℤ z) × (z ≤ℤ greatest_i64)

pub if_kind : (k : Kind) (b : Bool) (x y : Outcome) → (b ≡ true → GivesKind k x) → (b ≡ false → GivesKind k y) → GivesKind k (if b then x else y)
if_kind k true x y h g = h refl
if_kind k false x y h g = g refl

pub le_is : (x y : ℤ) → int_le x y ≡ true → x ≤ℤ y
le_is x y h = grind (arith, ints)

exact_kind : (z : ℤ) → GivesKind kinds.I64 (exact z)
exact_kind z =
    if_kind kinds.I64 (int_le least_i64 z && int_le z greatest_i64) (Ok (values.I64 z)) (Err Overflow)
    (λ h. (le_is least_i64 z (and_left (int_le least_i64 z) (int_le z greatest_i64) h), le_is z greatest_i64 (and_right (int_le least_i64 z) (int_le z greatest_i64) h)))
    (λ h. tt)

-- ---- u64

u64_number : (op : ScalarOp) (m n : ℕ) → m < 2 ^ 64 → n < 2 ^ 64 → is_comparison op ≡ false → GivesKind kinds.U64 (u64_under op m n)
u64_number ops.Plus m n hm hn works = omega arith
u64_number ops.Minus m n hm hn works = omega arith
u64_number ops.Multiplies m n hm hn works = omega arith
u64_number ops.Divides m n hm hn works = if_kind kinds.U64 (n == 0) (Err DivZero) (Ok (values.U64 (m / n))) (λ h. tt) (λ h. omega (arith, div-le_self m n))
u64_number ops.Modulus m n hm hn works = if_kind kinds.U64 (n == 0) (Err DivZero) (Ok (values.U64 (m % n))) (λ h. tt) (λ h. omega (arith, mod-le m n))
u64_number ops.BitAnd m n hm hn works = and_lt 64 m n hm hn
u64_number ops.BitOr m n hm hn works = or_lt 64 m n hm hn
u64_number ops.BitXor m n hm hn works = xor_lt 64 m n hm hn
u64_number ops.Min m n hm hn works = omega arith
u64_number ops.Max m n hm hn works = omega arith
u64_number _ m n hm hn works = absurd (cc)

u64_truth : (op : ScalarOp) (m n : ℕ) → is_comparison op ≡ true → GivesKind kinds.Bool (u64_under op m n)
u64_truth ops.Less m n compares = tt
u64_truth ops.LessEqual m n compares = tt
u64_truth ops.Greater m n compares = tt
u64_truth ops.GreaterEqual m n compares = tt
u64_truth ops.Equal m n compares = tt
u64_truth ops.NotEqual m n compares = tt
u64_truth _ m n compares = absurd (cc)

-- ---- i64

signed_kind : (n : ℕ) → n < 2 ^ 64 → IsI64 (signed_of n)
signed_kind n h = (grind (arith, ints, nat_tests), grind (arith, ints, nat_tests))

-- the quotient of two numbers below 0
below_zero : (a b : ℕ) → a < 2 ^ 63 → (a ≡ 2 ^ 63 - 1 → b ≡ 0 → ⊥) → suc a / suc b < 2 ^ 63
below_zero a zero h other =
    let less : a ≢ 2 ^ 63 - 1 = λ e. other e refl in
    omega (arith, less, div-le_self (suc a) 1)
below_zero a (suc b) h other = omega (arith, div-mul-le_self (suc a) (suc (suc b)))

not_least : (a b : ℕ) → (int_eq (negsuc a) least_i64 && int_eq (negsuc b) (neg_ℤ (pos 1))) ≡ false → a ≡ 2 ^ 63 - 1 → b ≡ 0 → ⊥
not_least a b other e f =
    let both : false ≡ true = sym other ∙ (λ i. int_eq (negsuc (e i)) least_i64 && int_eq (negsuc (f i)) (neg_ℤ (pos 1))) in
    cc

-- a quotient is a number of i64, but for that of the least one and -1
quotient_kind : (x y : ℤ) → IsI64 x → (int_eq x least_i64 && int_eq y (neg_ℤ (pos 1))) ≡ false → IsI64 (int_div x y)
quotient_kind (pos a) (pos b) h works = (omega (arith, ints), omega (arith, ints, h.1, div-le_self a b))
quotient_kind (pos a) (negsuc b) h other = (omega (arith, ints, h.1, div-le_self a (suc b)), omega (arith, ints, h.1, div-le_self a (suc b)))
quotient_kind (negsuc a) (pos b) h other = (omega (arith, ints, h.0, div-le_self (suc a) b), omega (arith, ints, h.0, div-le_self (suc a) b))
quotient_kind (negsuc a) (negsuc b) h other =
    let small : a < 2 ^ 63 = omega (arith, ints, h.0) in
    (omega (arith, ints), omega (arith, ints, below_zero a b small (not_least a b other)))

remainder_kind : (x y : ℤ) → IsI64 x → IsI64 (int_rem x y)
remainder_kind (pos a) y h = (omega (arith, ints), omega (arith, ints, h.1, mod-le a (nat_abs y)))
remainder_kind (negsuc a) y h = (omega (arith, ints, h.0, mod-le (suc a) (nat_abs y)), omega (arith, ints, h.0, mod-le (suc a) (nat_abs y)))

divided_kind : (x y v : ℤ) → ((int_eq x least_i64 && int_eq y (neg_ℤ (pos 1))) ≡ false → IsI64 v) → GivesKind kinds.I64 (divided x y v)
divided_kind x y v h =
    if_kind kinds.I64 (int_eq y (pos 0)) (Err DivZero) (if int_eq x least_i64 && int_eq y (neg_ℤ (pos 1)) then Err Overflow else Ok (values.I64 v)) (λ z. tt)
    (λ z. if_kind kinds.I64 (int_eq x least_i64 && int_eq y (neg_ℤ (pos 1))) (Err Overflow) (Ok (values.I64 v)) (λ o. tt) h)

min_kind : (x y : ℤ) → IsI64 x → IsI64 y → IsI64 (int_min x y)
min_kind x y h g = (grind (arith, ints, clamps, h.0, g.0), grind (arith, ints, clamps, h.1, g.1))

max_kind : (x y : ℤ) → IsI64 x → IsI64 y → IsI64 (int_max x y)
max_kind x y h g = (grind (arith, ints, clamps, h.0, g.0), grind (arith, ints, clamps, h.1, g.1))

i64_number : (op : ScalarOp) (x y : ℤ) → IsI64 x → IsI64 y → is_comparison op ≡ false → GivesKind kinds.I64 (i64_under op x y)
i64_number ops.Plus x y h g works = exact_kind (x +ℤ y)
i64_number ops.Minus x y h g works = exact_kind (x -ℤ y)
i64_number ops.Multiplies x y h g works = exact_kind (x *ℤ y)
i64_number ops.Divides x y h g works = divided_kind x y (int_div x y) (quotient_kind x y h)
i64_number ops.Modulus x y h g works = divided_kind x y (int_rem x y) (λ z. remainder_kind x y h)
i64_number ops.BitAnd x y h g works = signed_kind (bit_and (unsigned_of x) (unsigned_of y)) (and_lt 64 (unsigned_of x) (unsigned_of y) (unsigned-lt x h.0 h.1) (unsigned-lt y g.0 g.1))
i64_number ops.BitOr x y h g works = signed_kind (bit_or (unsigned_of x) (unsigned_of y)) (or_lt 64 (unsigned_of x) (unsigned_of y) (unsigned-lt x h.0 h.1) (unsigned-lt y g.0 g.1))
i64_number ops.BitXor x y h g works = signed_kind (bit_xor (unsigned_of x) (unsigned_of y)) (xor_lt 64 (unsigned_of x) (unsigned_of y) (unsigned-lt x h.0 h.1) (unsigned-lt y g.0 g.1))
i64_number ops.Min x y h g works = min_kind x y h g
i64_number ops.Max x y h g works = max_kind x y h g
i64_number _ x y h g works = absurd (cc)

i64_truth : (op : ScalarOp) (x y : ℤ) → is_comparison op ≡ true → GivesKind kinds.Bool (i64_under op x y)
i64_truth ops.Less x y compares = tt
i64_truth ops.LessEqual x y compares = tt
i64_truth ops.Greater x y compares = tt
i64_truth ops.GreaterEqual x y compares = tt
i64_truth ops.Equal x y compares = tt
i64_truth ops.NotEqual x y compares = tt
i64_truth _ x y compares = absurd (cc)

-- ---- values

-- an operation of a chain
pub number_kind : (op : ScalarOp) (kind : Kind) (x y : Value) → is_comparison op ≡ false → is_number kind ≡ true → IsValueOf kind x → IsValueOf kind y → GivesKind kind (value_under op x y)
number_kind op kinds.U64 (values.U64 m) (values.U64 n) works number h g = u64_number op m n h g works
number_kind op kinds.I64 (values.I64 x) (values.I64 y) works number h g = i64_number op x y h g works
number_kind op kinds.U64 (values.U64 m) y works number h g = absurd g
number_kind op kinds.U64 x y works number h g = absurd h
number_kind op kinds.I64 (values.I64 x) y works number h g = absurd g
number_kind op kinds.I64 x y works number h g = absurd h
number_kind op kinds.Bool x y works number h g = absurd (cc)

-- a comparison
pub truth_kind : (op : ScalarOp) (kind : Kind) (x y : Value) → is_comparison op ≡ true → IsValueOf kind x → IsValueOf kind y → GivesKind kinds.Bool (value_under op x y)
truth_kind op kinds.U64 (values.U64 m) (values.U64 n) compares h g = u64_truth op m n compares
truth_kind op kinds.I64 (values.I64 x) (values.I64 y) compares h g = i64_truth op x y compares
truth_kind op kinds.Bool (values.Bool a) (values.Bool b) compares h g = tt
truth_kind op kinds.U64 (values.U64 m) y compares h g = absurd g
truth_kind op kinds.U64 x y compares h g = absurd h
truth_kind op kinds.I64 (values.I64 x) y compares h g = absurd g
truth_kind op kinds.I64 x y compares h g = absurd h
truth_kind op kinds.Bool (values.Bool a) y compares h g = absurd g
truth_kind op kinds.Bool x y compares h g = absurd h

pub negated_kind : (x : Value) → IsValueOf kinds.I64 x → GivesKind kinds.I64 (negated x)
negated_kind (values.I64 z) h = exact_kind (neg_ℤ z)
negated_kind (values.U64 n) h = absurd h
negated_kind (values.Bool b) h = absurd h

pub converted_kind : (to from : Kind) (x : Value) → IsValueOf from x → GivesKind to (converted to x)
converted_kind kinds.U64 kinds.U64 (values.U64 n) h = h
converted_kind kinds.U64 kinds.I64 (values.I64 z) h = unsigned-lt z h.0 h.1
converted_kind kinds.U64 kinds.Bool (values.Bool true) h = omega arith
converted_kind kinds.U64 kinds.Bool (values.Bool false) h = omega arith
converted_kind kinds.I64 kinds.U64 (values.U64 n) h = exact_kind (pos n)
converted_kind kinds.I64 kinds.I64 (values.I64 z) h = h
converted_kind kinds.I64 kinds.Bool (values.Bool true) h = (omega (arith, ints), omega (arith, ints))
converted_kind kinds.I64 kinds.Bool (values.Bool false) h = (omega (arith, ints), omega (arith, ints))
converted_kind kinds.Bool kinds.U64 (values.U64 n) h = tt
converted_kind kinds.Bool kinds.I64 (values.I64 z) h = tt
converted_kind kinds.Bool kinds.Bool (values.Bool b) h = tt
converted_kind to kinds.U64 x h = absurd h
converted_kind to kinds.I64 x h = absurd h
converted_kind to kinds.Bool x h = absurd h
