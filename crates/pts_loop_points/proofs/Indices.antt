-- The index of a loop whose bounds are in the range of `i64` is in it at each of its positions.
use Rattle.std.proofs.Common.{◌≡◌, ℕ, suc, ◌+◌, ◌-◌, ◌*◌, ◌/◌, ◌<◌, ◌≤◌, Bool, true, false, ℤ, pos, negsuc, refl, ap, ◌∙◌, arith, div-mul-le_self, mul-le-mul_right}
use Rattle.std.specs.Prelude.{if◌then◌else◌, int_lt, nat_abs, neg_ℤ, ◌≤ℤ◌, ◌+ℤ◌, ◌-ℤ◌, ◌*ℤ◌}
use Rattle.std.proofs.Math.IntN.{pos-*ℤ-pos, pos-*ℤ-negsuc}
use Rattle.std.proofs.lemmas.Int.{ints}
use Rattle.pts_types.specs.Arithmetic.{least_i64, greatest_i64}
use Rattle.pts_types.specs.declared.value.Kind.TheVariants as kinds
use Rattle.pts_rules.specs.Counts.{leads_to, positions}
use Rattle.pts_rules.specs.Known.{holds}

bounds : (z : ℤ) → holds kinds.I64 z ≡ true → (least_i64 ≤ℤ z) × (z ≤ℤ greatest_i64)
bounds z h = grind (arith, h)

between : (z : ℤ) → least_i64 ≤ℤ z → z ≤ℤ greatest_i64 → holds kinds.I64 z ≡ true
between z low high = grind (arith, low, high)

-- so many steps of this size stay before the end
steps_fit : (p n m : ℕ) → p < 1 + (n - 1) / m → p * m ≤ n - 1
steps_fit p n m h =
    let within : p ≤ (n - 1) / m = omega (arith, h) in
    let part = mul-le-mul_right m within in
    let whole = div-mul-le_self (n - 1) m in
    omega (arith, part, whole)

module _ (a b : ℤ) (first : holds kinds.I64 a ≡ true) (last : holds kinds.I64 b ≡ true) (p : ℕ) where
  low : (least_i64 ≤ℤ a) × (a ≤ℤ greatest_i64)
  low = bounds a first

  high : (least_i64 ≤ℤ b) × (b ≤ℤ greatest_i64)
  high = bounds b last

  upwards : (n : ℕ) → n ≤ nat_abs (b -ℤ a) - 1 → int_lt a b ≡ true → holds kinds.I64 (a +ℤ pos n) ≡ true
  upwards n fit less =
      between (a +ℤ pos n) (omega (arith, ints, low, high, fit, less)) (omega (arith, ints, low, high, fit, less))

  downwards : (n : ℕ) → n ≤ nat_abs (b -ℤ a) - 1 → int_lt b a ≡ true → holds kinds.I64 (a +ℤ neg_ℤ (pos n)) ≡ true
  downwards n fit less =
      between (a +ℤ neg_ℤ (pos n)) (omega (arith, ints, low, high, fit, less)) (omega (arith, ints, low, high, fit, less))

  steps_up : (m : ℕ) → leads_to a b (pos m) ≡ true → int_lt a b ≡ true
  steps_up m h = grind (arith, ints, h)

  steps_down : (m : ℕ) → leads_to a b (negsuc m) ≡ true → int_lt b a ≡ true
  steps_down m h = grind (arith, ints, h)

  leading : (step : ℤ) → leads_to a b step ≡ true → p < 1 + (nat_abs (b -ℤ a) - 1) / nat_abs step → holds kinds.I64 (a +ℤ pos p *ℤ step) ≡ true
  leading (pos m) leads h = ap (λ z. holds kinds.I64 (a +ℤ z)) (pos-*ℤ-pos p m) ∙ upwards (p * m) (steps_fit p (nat_abs (b -ℤ a)) m h) (steps_up m leads)
  leading (negsuc m) leads h = ap (λ z. holds kinds.I64 (a +ℤ z)) (pos-*ℤ-negsuc p m) ∙ downwards (p * suc m) (steps_fit p (nat_abs (b -ℤ a)) (suc m) h) (steps_down m leads)

  by_lead : (step : ℤ) (t : Bool) → leads_to a b step ≡ t → p < (if t then 1 + (nat_abs (b -ℤ a) - 1) / nat_abs step else 0) → holds kinds.I64 (a +ℤ pos p *ℤ step) ≡ true
  by_lead step true leads h = leading step leads h
  by_lead step false leads h = absurd (omega (arith, h))

pub index_held : (a b step : ℤ) (p : ℕ) → holds kinds.I64 a ≡ true → holds kinds.I64 b ≡ true → p < positions a b step → holds kinds.I64 (a +ℤ pos p *ℤ step) ≡ true
index_held a b step p first last h = by_lead a b first last p step (leads_to a b step) refl h
