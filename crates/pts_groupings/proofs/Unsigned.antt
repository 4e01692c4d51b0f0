-- The seven operations of reductions are free on u64, and each has a neutral identity there.
use Rattle.std.proofs.Common.{◌≡◌, ℕ, ◌+◌, ◌*◌, ◌%◌, ◌^◌, ◌<◌, Option, Some, min, max, sym, ap, ◌∙◌, arith}
use Rattle.std.specs.Option.{IfSome}
use Rattle.std.specs.Result.{result_ok}
use Rattle.std.specs.Int.Bits.{or_zero_r, xor_zero_r}
use Rattle.std.proofs.Math.Nat.{mod-eq_of_lt}
use Rattle.std.proofs.lemmas.Nat.{and_mask}
use Rattle.pts_types.specs.Arithmetic.{IsReduction, IsValueOf, identity_of, value_under}
use Rattle.pts_types.specs.Laws.{IsU64}
use Rattle.pts_types.specs.declared.operation.ScalarOp.{ScalarOp}
use Rattle.pts_types.specs.declared.operation.ScalarOp.TheVariants.{Plus, Multiplies, BitAnd, BitOr, BitXor, Min, Max}
use Rattle.pts_types.specs.declared.value.Kind.TheVariants as kinds
use Rattle.pts_types.specs.declared.value.Value.{Value}
use Rattle.pts_types.specs.declared.value.Value.TheVariants.{U64}
use Rattle.pts_types.proofs.Grouping.{u64-associative, u64-commutative}
use Rattle.pts_groupings.specs.Laws.{given, OneOutcome, SumsAreLeftFolds, PlacesAreLeftFolds, ReductionsAreLeftFolds}
use Rattle.pts_groupings.proofs.Free.{IsFree}
use Rattle.pts_groupings.proofs.LeftFolds.{then_first, then_second, one_outcome, sums_are_left_folds, places_are_left_folds, reductions_are_left_folds}

-- ---- free

numbers_stay : (op : ScalarOp) → IsReduction op → (m n : ℕ) → IfSome (given op (U64 m) (U64 n)) IsU64
numbers_stay Plus h m n = tt
numbers_stay Multiplies h m n = tt
numbers_stay BitAnd h m n = tt
numbers_stay BitOr h m n = tt
numbers_stay BitXor h m n = tt
numbers_stay Min h m n = tt
numbers_stay Max h m n = tt
numbers_stay op h m n = absurd h

values_stay : (op : ScalarOp) → IsReduction op → (x y : Value) → IsU64 x → IsU64 y → IfSome (given op x y) IsU64
values_stay op h (U64 m) (U64 n) p q = numbers_stay op h m n
values_stay op h (U64 m) y p q = absurd q
values_stay op h x y p q = absurd p

pub u64_free : (op : ScalarOp) → IsReduction op → IsFree IsU64 (given op)
u64_free op h = record {
  stays = values_stay op h;
  grouped = λ x y z p q r. then_first op (value_under op x y) z ∙ ap result_ok (u64-associative op h x y z p q r) ∙ sym (then_second op (value_under op y z) x);
  turned = λ x y p q. ap result_ok (u64-commutative op h x y p q);
}

-- ---- identities

some_number : ℕ → Option Value
some_number n = Some (U64 n)

neutral_number : (op : ScalarOp) → IsReduction op → (n : ℕ) → n < 2 ^ 64 → given op (U64 n) (identity_of op (U64 n)) ≡ Some (U64 n)
unfolding some_number
neutral_number Plus h n l = ap some_number (let e : (n + 0) % 2 ^ 64 ≡ n = omega (arith, l) in e)
neutral_number Multiplies h n l = ap some_number (let e : n * 1 % 2 ^ 64 ≡ n = omega (arith, l) in e)
neutral_number BitAnd h n l = ap some_number (and_mask n 64 ∙ mod-eq_of_lt l)
neutral_number BitOr h n l = ap some_number (or_zero_r n)
neutral_number BitXor h n l = ap some_number (xor_zero_r n)
neutral_number Min h n l = ap some_number (let e : min n n ≡ n = omega arith in e)
neutral_number Max h n l = ap some_number (let e : max n n ≡ n = omega arith in e)
neutral_number op h n l = absurd h

pub u64_neutral : (op : ScalarOp) → IsReduction op → (live : Value) → IsValueOf kinds.U64 live → given op live (identity_of op live) ≡ Some live
u64_neutral op h (U64 n) l = neutral_number op h n l
u64_neutral op h live l = absurd l

identity_number : (op : ScalarOp) → IsReduction op → (n : ℕ) → IsU64 (identity_of op (U64 n))
identity_number Plus h n = tt
identity_number Multiplies h n = tt
identity_number BitAnd h n = tt
identity_number BitOr h n = tt
identity_number BitXor h n = tt
identity_number Min h n = tt
identity_number Max h n = tt
identity_number op h n = absurd h

identity_is_u64 : (op : ScalarOp) → IsReduction op → (live : Value) → IsValueOf kinds.U64 live → IsU64 (identity_of op live)
identity_is_u64 op h (U64 n) l = identity_number op h n
identity_is_u64 op h live l = absurd l

value_is_u64 : (live : Value) → IsValueOf kinds.U64 live → IsU64 live
value_is_u64 (U64 n) l = tt
value_is_u64 live l = absurd l

-- ---- laws

pub u64_outcome : OneOutcome IsReduction IsU64
u64_outcome = one_outcome IsReduction IsU64 u64_free

pub u64_sums : SumsAreLeftFolds IsReduction IsU64
u64_sums = sums_are_left_folds IsReduction IsU64 u64_free

pub u64_places : PlacesAreLeftFolds IsReduction IsU64
u64_places = places_are_left_folds IsReduction IsU64 u64_free

pub u64_reductions : ReductionsAreLeftFolds IsReduction IsU64 kinds.U64
u64_reductions = reductions_are_left_folds IsReduction IsU64 u64_free kinds.U64 value_is_u64 u64_neutral identity_is_u64
