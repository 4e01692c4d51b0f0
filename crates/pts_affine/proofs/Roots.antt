-- One step of Euclid's algorithm on `a * p + w ≡ b * q`.
use Rattle.std.proofs.Common.{◌≡◌, ℕ, zero, suc, ◌+◌, ◌-◌, ◌*◌, ◌/◌, ◌%◌, ◌<◌, ◌≤◌, sym, ap, ◌∙◌, subst, arith}
use Rattle.std.proofs.Math.Nat.{le_of_mul-le-mul_left, lt_of_mul-lt-mul_left, mul-le-mul_left, mul-div_cancel_left}
use Rattle.pts_affine.specs.Equations.{IsLeastRoot}

-- what is left of a multiple behind a multiple is one too
rest_of : (b s t r q : ℕ) → q ≡ s + t → b * q ≡ b * s + r → r ≡ b * t
rest_of b s t r q h e = omega (arith, ap (λ n. b * n) h)

pub rest-multiple : (b q s r : ℕ) → 0 < b → b * q ≡ b * s + r → (t : ℕ) × (r ≡ b * t)
rest-multiple b q s r h e =
    let within : s ≤ q = le_of_mul-le-mul_left (let k : b * s ≤ b * q = omega arith in k) h in
    (q - s, rest_of b s (q - s) r q (omega arith) e)

-- a root in the remainders, and back
pub down : (a w b p q : ℕ) → 0 < b → a * p + w ≡ b * q → (t : ℕ) × ((a % b) * p + w % b ≡ b * t)
down a w b p q h e =
    let split : a ≡ b * (a / b) + a % b = omega arith in
    let at_p = ap (λ n. n * p) split in
    rest-multiple b q (a / b * p + w / b) ((a % b) * p + w % b) h (omega arith)

pub up : (a w b p t : ℕ) → 0 < b → (a % b) * p + w % b ≡ b * t → (q : ℕ) × (a * p + w ≡ b * q)
up a w b p t h e =
    let split : a ≡ b * (a / b) + a % b = omega arith in
    let at_p = ap (λ n. n * p) split in
    (a / b * p + w / b + t, omega arith)

small-multiple : (b r t : ℕ) → r < b → 0 < r → r ≡ b * t → ⊥
small-multiple b r zero below some e = omega arith
small-multiple b r (suc t) below some e = omega arith

-- where w is a multiple, 0 is the least root
pub zero-root : (a w b : ℕ) → 0 < b → w % b ≡ 0 → IsLeastRoot a w b 0
zero-root a w b h over = record {
  root = up a w b 0 0 h (omega arith);
  least = λ p' q' e. omega arith;
}

-- where a is a multiple and w is none, there is no root
pub no-root : (a w b : ℕ) → 0 < b → 0 < w % b → a % b ≡ 0 → (p q : ℕ) → a * p + w ≡ b * q → ⊥
no-root a w b h over rest p q e =
    let t = down a w b p q h e in
    small-multiple b (w % b) t.0 (omega arith) over (omega (arith, t.1, ap (λ n. n * p) rest))

-- a root in the remainders is one of the next step
inner : (r o b p t : ℕ) → 0 < o → o < b → r * p + o ≡ b * t → (s : ℕ) × (b * s + (b - o) ≡ r * p)
inner r o b p zero some below e = absurd (omega arith)
inner r o b p (suc t) some below e = (t, omega arith)

pub next : (a w b p q : ℕ) → 0 < b → 0 < w % b → a * p + w ≡ b * q → (s : ℕ) × (b * s + (b - w % b) ≡ (a % b) * p)
next a w b p q h some e =
    let t = down a w b p q h e in
    inner (a % b) (w % b) b p t.0 some (omega arith) t.1

-- the next step's least root gives this one's
least_at : (a w b q s : ℕ) → 0 < b → 0 < w % b → 0 < a % b → b * q + (b - w % b) ≡ (a % b) * s → ((p' q' : ℕ) → b * p' + (b - w % b) ≡ (a % b) * q' → q ≤ p') → IsLeastRoot a w b s
least_at a w b q s h over rest e least = record {
  root = up a w b s (q + 1) h (omega arith);
  least = λ p' q' e'.
      let n = next a w b p' q' h over e' in
      let below = mul-le-mul_left b (least n.0 p' n.1) in
      le_of_mul-le-mul_left (let k : (a % b) * s ≤ (a % b) * p' = omega (arith, n.1) in k) rest;
}

quotient-is : (b q o r s : ℕ) → 0 < r → b * q + o ≡ r * s → (b * q + o) / r ≡ s
quotient-is b q o r s h e = ap (λ n. n / r) e ∙ mul-div_cancel_left s h

pub least_from_next : (a w b q : ℕ) → 0 < b → 0 < w % b → 0 < a % b → IsLeastRoot b (b - w % b) (a % b) q → IsLeastRoot a w b ((b * q + (b - w % b)) / (a % b))
least_from_next a w b q h over rest l =
    subst (IsLeastRoot a w b) (sym (quotient-is b q (b - w % b) (a % b) l.root.0 rest l.root.1))
    (least_at a w b q l.root.0 h over rest l.root.1 l.least)

pub below_from_next : (a w b q : ℕ) → 0 < b → 0 < w % b → 0 < a % b → q < a % b → IsLeastRoot b (b - w % b) (a % b) q → (b * q + (b - w % b)) / (a % b) < b
below_from_next a w b q h over rest below l =
    let s = l.root.0 in
    let most = mul-le-mul_left b (let k : q + 1 ≤ a % b = omega arith in k) in
    let inside : (a % b) * s < (a % b) * b = omega (arith, l.root.1) in
    subst (λ n. n < b) (sym (quotient-is b q (b - w % b) (a % b) s rest l.root.1)) (lt_of_mul-lt-mul_left (a % b) inside)
