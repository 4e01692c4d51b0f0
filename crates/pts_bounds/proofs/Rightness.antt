-- Numbers of ranges, cells and loops that are right.
use Rattle.std.proofs.Common.{◌≡◌, ℕ, ◌+◌, ◌-◌, ◌<◌, ◌≤◌, ◌^◌, Bool, true, false, Option, Some, None, ℤ, pos, refl, arith}
use Rattle.std.specs.List.{list_all}
use Rattle.std.specs.Prelude.{map, if◌then◌else◌, nat_abs, ◌/◌, ◌-ℤ◌, ◌&&◌, ◌≤ℤ◌, int_le, is_some}
use Rattle.std.proofs.lemmas.Bool.{and_parts, false≢true}
use Rattle.std.proofs.lemmas.Int.{ints}
use Rattle.pts_types.specs.Arithmetic.{least_i64, greatest_i64}
use Rattle.pts_tree.specs.declared.sum.Sum.{Sum}
use Rattle.pts_tree.specs.declared.sum.Range.{Range}
use Rattle.pts_tree.specs.Spelling.{if_there}
use Rattle.pts_tree.specs.declared.call.Call as call
use Rattle.pts_tree.specs.declared.loops.Loop as loops
use Rattle.pts_types.specs.declared.value.Kind.TheVariants as kinds
use Rattle.pts_rules.specs.Counts as counts
use Rattle.pts_rules.specs.Known.{Scope, has, holds, is_place, kind_of_array, lies_in, number, sum_is, sum_value}
use Rattle.pts_rules.specs.Mistyped.{all_right, body_scope, call_right, checked_stmt, clause_right, form_right, loop_right, range_right}

-- what holds of the value of a sum
number_is : (scope : Scope) (test : ℤ → Bool) (x : Sum) → sum_is scope test x ≡ true → test (number scope x) ≡ true
number_is scope test x = go (sum_value scope x) where
  go : (z : Option ℤ) → has test z ≡ true → test (elim z [ None ↦ pos 0 | Some y ↦ y ]) ≡ true
  go None h = absurd (false≢true h)
  go (Some y) h = h

above_low : (low high z : ℤ) → lies_in low high z ≡ true → (low ≤ℤ z) × (z ≤ℤ high)
above_low low high z h = let both = and_parts (int_le low z) (int_le z high) h in (grind (arith, ints), grind (arith, ints))

pub range_low : (scope : Scope) (x : Range) → range_right scope x ≡ true → pos 0 ≤ℤ number scope x.low
range_low scope x h =
    let ends = and_parts (is_some (kind_of_array scope x.array) && sum_is scope is_place x.low) (sum_is scope is_place x.high) h in
    let low = and_parts (is_some (kind_of_array scope x.array)) (sum_is scope is_place x.low) ends.0 in
    (above_low (pos 0) greatest_i64 (number scope x.low) (number_is scope is_place x.low low.1)).0

-- ---- the ranges of a call

module _ (scope : Scope) (x : call.Call) (h : call_right scope x ≡ true) where
  three : (range_right scope x.first && if_there (range_right scope) x.second && if_there (range_right scope) x.target) ≡ true
  three = (and_parts (range_right scope x.first && if_there (range_right scope) x.second && if_there (range_right scope) x.target) (form_right x.form scope x) h).0

  two : (range_right scope x.first && if_there (range_right scope) x.second) ≡ true
  two = (and_parts (range_right scope x.first && if_there (range_right scope) x.second) (if_there (range_right scope) x.target) three).0

  pub first_right : range_right scope x.first ≡ true
  first_right = (and_parts (range_right scope x.first) (if_there (range_right scope) x.second) two).0

  pub second_right : if_there (range_right scope) x.second ≡ true
  second_right = (and_parts (range_right scope x.first) (if_there (range_right scope) x.second) two).1

  pub target_right : if_there (range_right scope) x.target ≡ true
  target_right = (and_parts (range_right scope x.first && if_there (range_right scope) x.second) (if_there (range_right scope) x.target) three).1

pub ruleset call_ranges = (first_right, second_right, target_right)

-- ---- the bounds and the step of a loop

-- a number in `i64`
abbrev pub IsI64 : ℤ → Type 0
IsI64 z = (least_i64 ≤ℤ z) × (z ≤ℤ greatest_i64)

in_i64 : (scope : Scope) (x : Sum) → sum_is scope (holds kinds.I64) x ≡ true → IsI64 (number scope x)
in_i64 scope x h = above_low least_i64 greatest_i64 (number scope x) (number_is scope (holds kinds.I64) x h)

step_in : (scope : Scope) (x : Option Sum) → if_there (sum_is scope (holds kinds.I64)) x ≡ true → IsI64 (counts.step_of scope x)
step_in scope None h = (grind (arith, ints), grind (arith, ints))
step_in scope (Some x) h = in_i64 scope x h

module _ (scope : Scope) (x : loops.Loop) (h : loop_right scope x ≡ true) where
  abbrev low_is : Bool
  low_is = sum_is scope (holds kinds.I64) x.low

  abbrev high_is : Bool
  high_is = sum_is scope (holds kinds.I64) x.high

  abbrev step_is : Bool
  step_is = if_there (sum_is scope (holds kinds.I64)) x.step

  head : (low_is && high_is && step_is) ≡ true
  head =
      (and_parts (low_is && high_is && step_is) (list_all (clause_right scope) x.clauses)
      (and_parts (low_is && high_is && step_is && list_all (clause_right scope) x.clauses) (all_right (body_scope scope x) (map checked_stmt x.body)) h).0).0

  ends : (low_is && high_is) ≡ true
  ends = (and_parts (low_is && high_is) step_is head).0

  pub low_in_i64 : IsI64 (number scope x.low)
  low_in_i64 = in_i64 scope x.low (and_parts low_is high_is ends).0

  pub high_in_i64 : IsI64 (number scope x.high)
  high_in_i64 = in_i64 scope x.high (and_parts low_is high_is ends).1

  pub step_in_i64 : IsI64 (counts.step_of scope x.step)
  step_in_i64 = step_in scope x.step (and_parts (low_is && high_is) step_is head).1

-- at most one position for each number between the bounds
div-le : (n d : ℕ) → n / d ≤ n
div-le n d = grind arith

few : (a b step : ℤ) → IsI64 a → IsI64 b → counts.positions a b step < 2 ^ 64
few a b step h k = go (counts.leads_to a b step) refl where
  wide : nat_abs (b -ℤ a) < 2 ^ 64
  wide = omega (arith, ints, h, k)

  go : (t : Bool) → counts.leads_to a b step ≡ t → (if t then 1 + (nat_abs (b -ℤ a) - 1) / nat_abs step else 0) < 2 ^ 64
  go true e = let l = div-le (nat_abs (b -ℤ a) - 1) (nat_abs step) in omega (arith, l, wide)
  go false e = omega arith

pub few_positions : (scope : Scope) (x : loops.Loop) → loop_right scope x ≡ true → counts.loop_positions scope x < 2 ^ 64
few_positions scope x h = few (number scope x.low) (number scope x.high) (counts.step_of scope x.step) (low_in_i64 scope x h) (high_in_i64 scope x h)

pub ruleset loop_numbers = (low_in_i64, step_in_i64, few_positions)
