-- Linear bounds on a number, as bounds by a quotient.
use Rattle.std.proofs.Common.{◌≡◌, ℕ, ◌+◌, ◌-◌, ◌*◌, ◌/◌, ◌%◌, ◌<◌, ◌≤◌, min, ap, arith}
use Rattle.std.specs.Prelude.{◌↔◌}
use Rattle.std.proofs.lemmas.Nat.{le-div}
use Rattle.std.proofs.lemmas.Grind.{div_ceil_times}
use Rattle.std.proofs.Math.Nat.{lt_of_mul-lt-mul_right, mul-le-mul_left, mul-le-mul_right}

module _ (a b c d p : ℕ) where
  -- the difference of the factors, times p
  factors : a ≤ c → c * p ≡ a * p + (c - a) * p
  factors h = omega (arith, ap (λ n. n * p) (let e : c ≡ a + (c - a) = omega arith in e))

  pub lower : a < c → d < b → (a * p + b ≤ c * p + d) ↔ ((b - d) / (c - a) + min 1 ((b - d) % (c - a)) ≤ p)
  lower h k =
      let e = factors (omega arith) in
      let times = div_ceil_times (b - d) (c - a) (omega arith) in (
        λ within.
            let below : ((b - d) / (c - a) + min 1 ((b - d) % (c - a))) * (c - a) < (p + 1) * (c - a) = omega (arith, times.1, within) in
            let less = lt_of_mul-lt-mul_right (c - a) below in
            omega (arith, less),
        λ above.
            let more = mul-le-mul_right (c - a) above in
            omega (arith, times.0, more),
      )

module _ (a b c d p : ℕ) where
  pub upper : c < a → b ≤ d → (a * p + b ≤ c * p + d) ↔ (p < (d - b) / (a - c) + 1)
  upper h k =
      let e = factors c b a d p (omega arith) in (
        λ within.
            let fits = le-div p (d - b) (a - c) (omega arith) (omega (arith, within)) in
            omega (arith, fits),
        λ below.
            let most = mul-le-mul_left (a - c) (let n : p ≤ (d - b) / (a - c) = omega arith in n) in
            omega (arith, most),
      )
