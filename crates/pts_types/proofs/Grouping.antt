-- Which operations may be grouped and turned freely.
use Rattle.std.proofs.Common.{◌≡◌, ℕ, ◌*◌, ◌%◌, ◌^◌, ◌<◌, min, max, ℤ, sym, ap, ◌∙◌, arith}
use Rattle.std.specs.Prelude.{◌≤ℤ◌, bit_and, bit_or, bit_xor, Result, Ok}
use Rattle.std.specs.Int.{int_min, int_max}
use Rattle.std.specs.Int.Bits.{xor_assoc, and_lt}
use Rattle.std.proofs.lemmas.Int.{ints, clamps}
use Rattle.std.proofs.lemmas.Nat.{and_assoc, and_comm, or_comm, xor_comm, or_lt, xor_lt, mul-mod_first, mul-mod_second}
use Rattle.std.proofs.Math.Nat.{mul_assoc, mul_comm}
use Rattle.pts_types.specs.Arithmetic.{IsReduction, value_under, u64_under, i64_under, sum_u64, signed_of, unsigned_of, least_i64, greatest_i64}
use Rattle.pts_types.specs.Laws.{IsU64, IsI64, IsSelection, IsAssociative, IsCommutative, and_then}
use Rattle.pts_types.specs.declared.operation.ScalarOp.{ScalarOp}
use Rattle.pts_types.specs.declared.operation.ScalarOp.TheVariants.{Plus, Multiplies, BitAnd, BitOr, BitXor, Min, Max}
use Rattle.pts_types.specs.declared.value.Thrown.{Thrown}
use Rattle.pts_types.specs.declared.value.Value.{Value}
use Rattle.pts_types.specs.declared.value.Value.TheVariants.{U64, I64}
use Rattle.pts_types.proofs.Bitwise.{unsigned-signed, unsigned-lt, or_assoc}

abbrev natural : ℕ → Result Value Thrown
natural n = Ok (U64 n)

abbrev whole : ℤ → Result Value Thrown
whole z = Ok (I64 z)

-- ---- on u64

pub sum_assoc : (a b c : ℕ) → sum_u64 (sum_u64 a b) c ≡ sum_u64 a (sum_u64 b c)
sum_assoc a b c = omega arith

product_assoc : (a b c : ℕ) → (a * b % 2 ^ 64) * c % 2 ^ 64 ≡ a * (b * c % 2 ^ 64) % 2 ^ 64
product_assoc a b c = mul-mod_first (a * b) c (2 ^ 64) ∙ ap (λ n. n % 2 ^ 64) (mul_assoc a b c) ∙ sym (mul-mod_second a (b * c) (2 ^ 64))

u64-grouped : (op : ScalarOp) → IsReduction op → (a b c : ℕ) → and_then (u64_under op a b) (λ v. value_under op v (U64 c)) ≡ and_then (u64_under op b c) (λ v. value_under op (U64 a) v)
u64-grouped Plus h a b c = ap natural (sum_assoc a b c)
u64-grouped Multiplies h a b c = ap natural (product_assoc a b c)
u64-grouped BitAnd h a b c = ap natural (and_assoc c a b)
u64-grouped BitOr h a b c = ap natural (or_assoc a b c)
u64-grouped BitXor h a b c = ap natural (xor_assoc a b c)
u64-grouped Min h a b c = ap natural (let e : min (min a b) c ≡ min a (min b c) = omega arith in e)
u64-grouped Max h a b c = ap natural (let e : max (max a b) c ≡ max a (max b c) = omega arith in e)
u64-grouped op h a b c = absurd h

u64-turned : (op : ScalarOp) → IsReduction op → (a b : ℕ) → u64_under op a b ≡ u64_under op b a
u64-turned Plus h a b = ap natural (let e : sum_u64 a b ≡ sum_u64 b a = omega arith in e)
u64-turned Multiplies h a b = ap (λ n. natural (n % 2 ^ 64)) (mul_comm a b)
u64-turned BitAnd h a b = ap natural (and_comm a b)
u64-turned BitOr h a b = ap natural (or_comm a b)
u64-turned BitXor h a b = ap natural (xor_comm a b)
u64-turned Min h a b = ap natural (let e : min a b ≡ min b a = omega arith in e)
u64-turned Max h a b = ap natural (let e : max a b ≡ max b a = omega arith in e)
u64-turned op h a b = absurd h

pub u64-associative : (op : ScalarOp) → IsReduction op → IsAssociative IsU64 op
u64-associative op h (U64 a) (U64 b) (U64 c) p q r = u64-grouped op h a b c
u64-associative op h (U64 a) (U64 b) z p q r = absurd r
u64-associative op h (U64 a) y z p q r = absurd q
u64-associative op h x y z p q r = absurd p

pub u64-commutative : (op : ScalarOp) → IsReduction op → IsCommutative IsU64 op
u64-commutative op h (U64 a) (U64 b) p q = u64-turned op h a b
u64-commutative op h (U64 a) y p q = absurd q
u64-commutative op h x y p q = absurd p

-- ---- on i64

abbrev InRange : ℤ → Type 0
InRange z = (least_i64 ≤ℤ z) × (z ≤ℤ greatest_i64)

-- an operation on numbers of 64 bits, in two's complement
module _ (f : ℕ → ℕ → ℕ) (bound : (a b : ℕ) → a < 2 ^ 64 → b < 2 ^ 64 → f a b < 2 ^ 64) where
  abbrev signed : ℤ → ℤ → ℤ
  signed x y = signed_of (f (unsigned_of x) (unsigned_of y))

  unsigned-of : (x y : ℤ) → InRange x → InRange y → unsigned_of (signed x y) ≡ f (unsigned_of x) (unsigned_of y)
  unsigned-of x y p q = unsigned-signed _ (bound _ _ (unsigned-lt x p.0 p.1) (unsigned-lt y q.0 q.1))

  signed-grouped : ((a b c : ℕ) → f (f a b) c ≡ f a (f b c)) → (x y z : ℤ) → InRange x → InRange y → InRange z → signed (signed x y) z ≡ signed x (signed y z)
  signed-grouped assoc x y z p q r =
      ap (λ n. signed_of (f n (unsigned_of z))) (unsigned-of x y p q)
      ∙ ap signed_of (assoc (unsigned_of x) (unsigned_of y) (unsigned_of z))
      ∙ sym (ap (λ n. signed_of (f (unsigned_of x) n)) (unsigned-of y z q r))

and_bound : (a b : ℕ) → a < 2 ^ 64 → b < 2 ^ 64 → bit_and a b < 2 ^ 64
and_bound a b = and_lt 64 a b

or_bound : (a b : ℕ) → a < 2 ^ 64 → b < 2 ^ 64 → bit_or a b < 2 ^ 64
or_bound a b = or_lt 64 a b

xor_bound : (a b : ℕ) → a < 2 ^ 64 → b < 2 ^ 64 → bit_xor a b < 2 ^ 64
xor_bound a b = xor_lt 64 a b

i64-grouped : (op : ScalarOp) → IsSelection op → (x y z : ℤ) → InRange x → InRange y → InRange z → and_then (i64_under op x y) (λ v. value_under op v (I64 z)) ≡ and_then (i64_under op y z) (λ v. value_under op (I64 x) v)
i64-grouped BitAnd h x y z p q r = ap whole (signed-grouped bit_and and_bound (λ a b c. and_assoc c a b) x y z p q r)
i64-grouped BitOr h x y z p q r = ap whole (signed-grouped bit_or or_bound or_assoc x y z p q r)
i64-grouped BitXor h x y z p q r = ap whole (signed-grouped bit_xor xor_bound xor_assoc x y z p q r)
i64-grouped Min h x y z p q r = ap whole (let e : int_min (int_min x y) z ≡ int_min x (int_min y z) = omega (arith, ints, clamps) in e)
i64-grouped Max h x y z p q r = ap whole (let e : int_max (int_max x y) z ≡ int_max x (int_max y z) = omega (arith, ints, clamps) in e)
i64-grouped op h x y z p q r = absurd h

i64-turned : (op : ScalarOp) → IsSelection op → (x y : ℤ) → i64_under op x y ≡ i64_under op y x
i64-turned BitAnd h x y = ap (λ n. whole (signed_of n)) (and_comm (unsigned_of x) (unsigned_of y))
i64-turned BitOr h x y = ap (λ n. whole (signed_of n)) (or_comm (unsigned_of x) (unsigned_of y))
i64-turned BitXor h x y = ap (λ n. whole (signed_of n)) (xor_comm (unsigned_of x) (unsigned_of y))
i64-turned Min h x y = ap whole (let e : int_min x y ≡ int_min y x = omega (arith, ints, clamps) in e)
i64-turned Max h x y = ap whole (let e : int_max x y ≡ int_max y x = omega (arith, ints, clamps) in e)
i64-turned op h x y = absurd h

pub i64-associative : (op : ScalarOp) → IsSelection op → IsAssociative IsI64 op
i64-associative op h (I64 x) (I64 y) (I64 z) p q r = i64-grouped op h x y z p q r
i64-associative op h (I64 x) (I64 y) z p q r = absurd r
i64-associative op h (I64 x) y z p q r = absurd q
i64-associative op h x y z p q r = absurd p

pub i64-commutative : (op : ScalarOp) → IsSelection op → IsCommutative IsI64 op
i64-commutative op h (I64 x) (I64 y) p q = i64-turned op h x y
i64-commutative op h (I64 x) y p q = absurd q
i64-commutative op h x y p q = absurd p
