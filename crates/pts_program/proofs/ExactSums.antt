-- Of a sum that is right nothing is cut: its one number is its value.
use Rattle.std.proofs.Common.{◌≡◌, ℕ, ◌-◌, ◌^◌, ◌≤◌, min, Bool, true, false, Option, Some, None, ℤ, pos, negsuc, refl, ap, ◌∙◌, arith}
use Rattle.std.specs.Prelude.{int_lt, int_le, nat_abs, ◌≤ℤ◌}
use Rattle.std.proofs.lemmas.Bool.{and_parts, false≢true}
use Rattle.std.proofs.lemmas.Int.{ints}
use Rattle.pts_types.specs.Arithmetic.{least_i64, greatest_i64}
use Rattle.pts_types.specs.declared.value.Kind.{Kind}
use Rattle.pts_types.specs.declared.value.Kind.TheVariants as kinds
use Rattle.pts_tree.specs.declared.sum.Sum.{Sum}
use Rattle.pts_tree.specs.declared.sum.Val.{Val}
use Rattle.pts_tree.specs.declared.sum.Val.TheVariants as vals
use Rattle.pts_rules.specs.Known.{Scope, has, holds, is_place, lies_in, number, signed, sum_is, sum_value, val_fits}
use Rattle.pts_constants.specs.Resolved.{number_sum, resolved_sum, resolved_val}

-- ---- numbers of 64 bits

-- a number whose size 64 bits hold
abbrev pub IsSmall : ℤ → Type 0
IsSmall z = nat_abs z ≤ 2 ^ 64 - 1

within_bounds : (low high z : ℤ) → lies_in low high z ≡ true → least_i64 ≤ℤ low → high ≤ℤ pos (2 ^ 64 - 1) → IsSmall z
within_bounds low high (pos n) h below above = let parts = and_parts (int_le low (pos n)) (int_le (pos n) high) h in grind (arith, ints, parts, below, above)
within_bounds low high (negsuc n) h below above = let parts = and_parts (int_le low (negsuc n)) (int_le (negsuc n) high) h in grind (arith, ints, parts, below, above)

pub held_small : (kind : Kind) (z : ℤ) → holds kind z ≡ true → IsSmall z
held_small kinds.I64 z h = within_bounds least_i64 greatest_i64 z h (omega (arith, ints)) (omega (arith, ints))
held_small kinds.U64 z h = within_bounds (pos 0) (pos (2 ^ 64 - 1)) z h (omega (arith, ints)) (omega (arith, ints))
held_small kinds.Bool z h = within_bounds (pos 0) (pos 1) z h (omega (arith, ints)) (omega (arith, ints))

pub place_small : (z : ℤ) → is_place z ≡ true → IsSmall z
place_small z h = within_bounds (pos 0) greatest_i64 z h (omega (arith, ints)) (omega (arith, ints))

-- ---- sums

signed_again : (z : ℤ) → signed (int_lt z (pos 0)) (pos (nat_abs z)) ≡ z
signed_again (pos n) = by_sign (int_lt (pos n) (pos 0)) refl
  where
    by_sign : (b : Bool) → int_lt (pos n) (pos 0) ≡ b → signed b (pos (nat_abs (pos n))) ≡ pos n
    by_sign true h = absurd (grind (arith, ints, h))
    by_sign false h = omega (arith, ints)
signed_again (negsuc n) = by_sign (int_lt (negsuc n) (pos 0)) refl
  where
    by_sign : (b : Bool) → int_lt (negsuc n) (pos 0) ≡ b → signed b (pos (nat_abs (negsuc n))) ≡ negsuc n
    by_sign true h = omega (arith, ints)
    by_sign false h = absurd (grind (arith, ints, h))

not_cut : (n : ℕ) → n ≤ 2 ^ 64 - 1 → min n (2 ^ 64 - 1) ≡ n
not_cut n h = omega (arith, h)

-- a small number is the value of the sum that it makes
number_value : (names : Scope) (z : ℤ) → IsSmall z → sum_value names (number_sum z) ≡ Some z
number_value names z small = ap (λ n. Some (signed (int_lt z (pos 0)) (pos n))) (not_cut (nat_abs z) small) ∙ ap Some (signed_again z)

value_known : (test : ℤ → Bool) (o : Option ℤ) → has test o ≡ true → (o ≡ Some (elim o [ None ↦ pos 0 | Some z ↦ z ])) × (test (elim o [ None ↦ pos 0 | Some z ↦ z ]) ≡ true)
value_known test None h = absurd (false≢true h)
value_known test (Some z) h = (refl, h)

module _ (scope names : Scope) where
  -- the test holds of the number of a sum of which it holds
  pub tested : (test : ℤ → Bool) (x : Sum) → sum_is scope test x ≡ true → test (number scope x) ≡ true
  tested test x h = (value_known test (sum_value scope x) h).1

  pub exact_value : (x : Sum) → IsSmall (number scope x) → sum_value names (resolved_sum scope x) ≡ Some (number scope x)
  exact_value x small = number_value names (number scope x) small

  -- the number that is left of a sum is its value
  pub exact : (x : Sum) → IsSmall (number scope x) → number names (resolved_sum scope x) ≡ number scope x
  exact x small = ap (λ o. elim o [ None ↦ pos 0 | Some z ↦ z ]) (exact_value x small)

  pub still_is : (test : ℤ → Bool) → ((z : ℤ) → test z ≡ true → IsSmall z) → (x : Sum) → sum_is scope test x ≡ true → sum_is names test (resolved_sum scope x) ≡ true
  still_is test small x h = let holds = tested test x h in ap (has test) (exact_value x (small (number scope x) holds)) ∙ holds

  pub still_place : (x : Sum) → sum_is scope is_place x ≡ true → sum_is names is_place (resolved_sum scope x) ≡ true
  still_place x h = still_is is_place place_small x h

  pub still_holds : (kind : Kind) (x : Sum) → sum_is scope (holds kind) x ≡ true → sum_is names (holds kind) (resolved_sum scope x) ≡ true
  still_holds kind x h = still_is (holds kind) (held_small kind) x h

  pub still_fits : (kind : Kind) (x : Val) → val_fits scope kind x ≡ true → val_fits names kind (resolved_val scope x) ≡ true
  still_fits kind (vals.Sum x) h = still_holds kind x h
  still_fits kind vals.True h = h
  still_fits kind vals.False h = h

  pub exact_place : (x : Sum) → sum_is scope is_place x ≡ true → number names (resolved_sum scope x) ≡ number scope x
  exact_place x h = exact x (place_small (number scope x) (tested is_place x h))

  pub exact_held : (kind : Kind) (x : Sum) → sum_is scope (holds kind) x ≡ true → number names (resolved_sum scope x) ≡ number scope x
  exact_held kind x h = exact x (held_small kind (number scope x) (tested (holds kind) x h))
