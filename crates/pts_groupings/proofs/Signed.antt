-- The five selections are free on i64, and each has a neutral identity there.
use Rattle.std.proofs.Common.{◌≡◌, ℕ, ◌^◌, ◌<◌, ℤ, pos, negsuc, Option, Some, sym, ap, ◌∙◌, arith}
use Rattle.std.specs.Prelude.{◌≤ℤ◌, bit_and, bit_or, bit_xor}
use Rattle.std.specs.Int.{int_min, int_max}
use Rattle.std.specs.Int.Bits.{and_lt, or_zero_r, xor_zero_r}
use Rattle.std.specs.Option.{IfSome}
use Rattle.std.specs.Result.{result_ok}
use Rattle.std.proofs.Math.Nat.{mod-eq_of_lt}
use Rattle.std.proofs.lemmas.Bool.Decides.{nat_tests}
use Rattle.std.proofs.lemmas.Int.{ints, clamps}
use Rattle.std.proofs.lemmas.Nat.{and_mask, or_lt, xor_lt}
use Rattle.pts_types.specs.Arithmetic.{IsValueOf, identity_of, value_under, signed_of, unsigned_of, least_i64, greatest_i64}
use Rattle.pts_types.specs.Laws.{IsI64, IsSelection}
use Rattle.pts_types.specs.declared.operation.ScalarOp.{ScalarOp}
use Rattle.pts_types.specs.declared.operation.ScalarOp.TheVariants.{BitAnd, BitOr, BitXor, Min, Max}
use Rattle.pts_types.specs.declared.value.Kind.TheVariants as kinds
use Rattle.pts_types.specs.declared.value.Value.{Value}
use Rattle.pts_types.specs.declared.value.Value.TheVariants.{I64}
use Rattle.pts_types.proofs.Bitwise.{unsigned-lt}
use Rattle.pts_types.proofs.Grouping.{i64-associative, i64-commutative}
use Rattle.pts_groupings.specs.Laws.{given, OneOutcome, SumsAreLeftFolds, PlacesAreLeftFolds, ReductionsAreLeftFolds}
use Rattle.pts_groupings.proofs.Free.{IsFree}
use Rattle.pts_groupings.proofs.LeftFolds.{then_first, then_second, one_outcome, sums_are_left_folds, places_are_left_folds, reductions_are_left_folds}

-- ---- numbers of 64 bits

signed-range : (n : ℕ) → n < 2 ^ 64 → (least_i64 ≤ℤ signed_of n) × (signed_of n ≤ℤ greatest_i64)
signed-range n l = (grind (arith, ints, nat_tests), grind (arith, ints, nat_tests))

signed-unsigned : (z : ℤ) → least_i64 ≤ℤ z → z ≤ℤ greatest_i64 → signed_of (unsigned_of z) ≡ z
signed-unsigned (pos n) l l' = grind (arith, ints, nat_tests)
signed-unsigned (negsuc n) l l' = grind (arith, ints, nat_tests)

-- ---- free

numbers_stay : (op : ScalarOp) → IsSelection op → (x y : ℤ) → IsI64 (I64 x) → IsI64 (I64 y) → IfSome (given op (I64 x) (I64 y)) IsI64
numbers_stay BitAnd h x y p q = signed-range (bit_and (unsigned_of x) (unsigned_of y)) (and_lt 64 _ _ (unsigned-lt x p.0 p.1) (unsigned-lt y q.0 q.1))
numbers_stay BitOr h x y p q = signed-range (bit_or (unsigned_of x) (unsigned_of y)) (or_lt 64 _ _ (unsigned-lt x p.0 p.1) (unsigned-lt y q.0 q.1))
numbers_stay BitXor h x y p q = signed-range (bit_xor (unsigned_of x) (unsigned_of y)) (xor_lt 64 _ _ (unsigned-lt x p.0 p.1) (unsigned-lt y q.0 q.1))
numbers_stay Min h x y p q = (let a = p.0 in let b = q.0 in omega (arith, ints, clamps), let a = p.1 in let b = q.1 in omega (arith, ints, clamps))
numbers_stay Max h x y p q = (let a = p.0 in let b = q.0 in omega (arith, ints, clamps), let a = p.1 in let b = q.1 in omega (arith, ints, clamps))
numbers_stay op h x y p q = absurd h

values_stay : (op : ScalarOp) → IsSelection op → (x y : Value) → IsI64 x → IsI64 y → IfSome (given op x y) IsI64
values_stay op h (I64 x) (I64 y) p q = numbers_stay op h x y p q
values_stay op h (I64 x) y p q = absurd q
values_stay op h x y p q = absurd p

pub i64_free : (op : ScalarOp) → IsSelection op → IsFree IsI64 (given op)
i64_free op h = record {
  stays = values_stay op h;
  grouped = λ x y z p q r. then_first op (value_under op x y) z ∙ ap result_ok (i64-associative op h x y z p q r) ∙ sym (then_second op (value_under op y z) x);
  turned = λ x y p q. ap result_ok (i64-commutative op h x y p q);
}

-- ---- identities

some_number : ℤ → Option Value
some_number z = Some (I64 z)

neutral_number : (op : ScalarOp) → IsSelection op → (z : ℤ) → IsI64 (I64 z) → given op (I64 z) (identity_of op (I64 z)) ≡ Some (I64 z)
unfolding some_number
neutral_number BitAnd h z p =
    ap (λ n. some_number (signed_of n)) (and_mask (unsigned_of z) 64 ∙ mod-eq_of_lt (unsigned-lt z p.0 p.1)) ∙ ap some_number (signed-unsigned z p.0 p.1)
neutral_number BitOr h z p = ap (λ n. some_number (signed_of n)) (or_zero_r (unsigned_of z)) ∙ ap some_number (signed-unsigned z p.0 p.1)
neutral_number BitXor h z p = ap (λ n. some_number (signed_of n)) (xor_zero_r (unsigned_of z)) ∙ ap some_number (signed-unsigned z p.0 p.1)
neutral_number Min h z p = ap some_number (let e : int_min z z ≡ z = omega (arith, ints, clamps) in e)
neutral_number Max h z p = ap some_number (let e : int_max z z ≡ z = omega (arith, ints, clamps) in e)
neutral_number op h z p = absurd h

i64_neutral : (op : ScalarOp) → IsSelection op → (live : Value) → IsValueOf kinds.I64 live → given op live (identity_of op live) ≡ Some live
i64_neutral op h (I64 z) p = neutral_number op h z p
i64_neutral op h live p = absurd p

identity_number : (op : ScalarOp) → IsSelection op → (z : ℤ) → IsI64 (I64 z) → IsI64 (identity_of op (I64 z))
identity_number BitAnd h z p = (omega (arith, ints), omega (arith, ints))
identity_number BitOr h z p = (omega (arith, ints), omega (arith, ints))
identity_number BitXor h z p = (omega (arith, ints), omega (arith, ints))
identity_number Min h z p = p
identity_number Max h z p = p
identity_number op h z p = absurd h

identity_is_i64 : (op : ScalarOp) → IsSelection op → (live : Value) → IsValueOf kinds.I64 live → IsI64 (identity_of op live)
identity_is_i64 op h (I64 z) p = identity_number op h z p
identity_is_i64 op h live p = absurd p

value_is_i64 : (live : Value) → IsValueOf kinds.I64 live → IsI64 live
value_is_i64 (I64 z) p = p
value_is_i64 live p = absurd p

-- ---- laws

pub i64_outcome : OneOutcome IsSelection IsI64
i64_outcome = one_outcome IsSelection IsI64 i64_free

pub i64_sums : SumsAreLeftFolds IsSelection IsI64
i64_sums = sums_are_left_folds IsSelection IsI64 i64_free

pub i64_places : PlacesAreLeftFolds IsSelection IsI64
i64_places = places_are_left_folds IsSelection IsI64 i64_free

pub i64_reductions : ReductionsAreLeftFolds IsSelection IsI64 kinds.I64
i64_reductions = reductions_are_left_folds IsSelection IsI64 i64_free kinds.I64 value_is_i64 i64_neutral identity_is_i64
