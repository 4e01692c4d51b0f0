-- The positions that solve an equation.
use Rattle.std.proofs.Common.{◌≡◌, ℕ, ◌+◌, ◌-◌, ◌*◌, ◌/◌, ◌<◌, ◌≤◌, ◌^◌, Bool, true, false, cond, inl, inr, refl, sym, ap, ◌∙◌, subst, arith}
use Rattle.std.specs.Prelude.{IsTrue, ◌⊎◌, ◌↔◌}
use Rattle.std.proofs.lemmas.Bool.{false≢true}
use Rattle.std.proofs.lemmas.Nat.{mul-le}
use Rattle.std.proofs.Math.Nat.{le_of_mul-le-mul_left, lt_of_mul-lt-mul_left, mul-le-mul_left, mul-div_cancel_left}
use Rattle.pts_affine.specs.declared.equation.Equation.{Equation}
use Rattle.pts_affine.specs.Equations.{Solves, HasPartner, IsBefore, place}
use Rattle.pts_affine.specs.Lines.{IsLeast}

-- the bound on p says that it stands before its q
before-of : (e : Equation) (after turned : Bool) (p q : ℕ) → 0 < e.b → e.a * p + e.u ≡ e.b * q + e.v → (IsTrue after → p < cond turned (e.m - 1 - q) q) → IsBefore after turned e p
before-of e false turned p q some same order = tt
before-of e true false p q some same order =
    let times = mul-le-mul_left e.b (let h : p + 1 ≤ q = omega (arith, order refl) in h) in
    omega (arith, times)
before-of e true true p q some same order =
    let times = mul-le-mul_left e.b (let h : p + q + 2 ≤ e.m = omega (arith, order refl) in h) in
    omega (arith, times)

order-of : (e : Equation) (after turned : Bool) (p q : ℕ) → 0 < e.b → e.a * p + e.u ≡ e.b * q + e.v → IsBefore after turned e p → IsTrue after → p < cond turned (e.m - 1 - q) q
order-of e false turned p q some same before is_after = absurd (false≢true is_after)
order-of e true false p q some same before is_after = lt_of_mul-lt-mul_left e.b (let h : e.b * p < e.b * q = omega (arith, before) in h)
order-of e true true p q some same before is_after =
    let within : p + q + 2 ≤ e.m = le_of_mul-le-mul_left (let h : e.b * (p + q + 2) ≤ e.b * e.m = omega (arith, before) in h) some in
    omega (arith, within)

pub before_in : (e : Equation) (p : ℕ) (after turned : Bool) → e.after ≡ after → e.turned ≡ turned → IsBefore after turned e p → IsBefore e.after e.turned e p
before_in e p after turned h k before = subst (λ x. IsBefore x e.turned e p) (sym h) (subst (λ y. IsBefore after y e p) (sym k) before)

pub before_out : (e : Equation) (p : ℕ) (after turned : Bool) → e.after ≡ after → e.turned ≡ turned → IsBefore e.after e.turned e p → IsBefore after turned e p
before_out e p after turned h k before = subst (λ y. IsBefore after y e p) k (subst (λ x. IsBefore x e.turned e p) h before)

pub partner-of : (e : Equation) (p q : ℕ) → 0 < e.b → Solves e p q → HasPartner e p
partner-of e p q some s =
    let most = mul-le-mul_left e.b (let h : q ≤ e.m - 1 = omega (arith, s.second) in h) in
    record {
      first = s.first;
      from = omega (arith, s.same);
      to = omega (arith, s.same, most);
      before = before-of e e.after e.turned p q some s.same s.order;
    }

pub solves-of : (e : Equation) (p q : ℕ) → 0 < e.b → 0 < e.m → HasPartner e p → e.a * p + e.u ≡ e.b * q + e.v → Solves e p q
solves-of e p q some room h same =
    let within : q ≤ e.m - 1 = le_of_mul-le-mul_left (let k : e.b * q ≤ e.b * (e.m - 1) = omega (arith, h.to) in k) some in
    record {
      first = h.first;
      second = omega arith;
      same = same;
      order = order-of e e.after e.turned p q some same h.before;
    }

-- from the first position of the span on, a solution is a root
pub root-of : (a u b v low p q : ℕ) → low ≤ p → v ≤ a * low + u → a * p + u ≡ b * q + v → a * (p - low) + (a * low + u - v) ≡ b * q
root-of a u b v low p q h from same = omega (arith, ap (λ n. a * n) (let e : p ≡ low + (p - low) = omega arith in e))

pub same-of : (a u b v low r q : ℕ) → v ≤ a * low + u → a * r + (a * low + u - v) ≡ b * q → a * (low + r) + u ≡ b * q + v
same-of a u b v low r q from root = omega arith

pub quotient-of : (a u b v p q : ℕ) → 0 < b → a * p + u ≡ b * q + v → (a * p + u - v) / b ≡ q
quotient-of a u b v p q some same = ap (λ n. n / b) (let e : a * p + u - v ≡ b * q = omega arith in e) ∙ mul-div_cancel_left q some

-- two solutions with one p have one q
same_q : (b v n q q' : ℕ) → 0 < b → n ≡ b * q + v → n ≡ b * q' + v → q ≤ q'
same_q b v n q q' some e e' = le_of_mul-le-mul_left (let k : b * q ≤ b * q' = omega arith in k) some

pub not_after : (e : Equation) (p q p' q' : ℕ) → 0 < e.b → Solves e p q → Solves e p' q' → p ≤ p' → (p < p') ⊎ ((p ≡ p') × (q ≤ q'))
not_after e p q p' q' some s s' h =
    let cases : (p < p') ⊎ (p ≡ p') = grind arith in
    elim cases [
      | inl less ↦ inl less
      | inr same ↦ inr (same, same_q e.b e.v (e.a * p + e.u) q q' some s.same (ap (λ n. e.a * n + e.u) same ∙ s'.same))
    ]

pub small-product : (a p : ℕ) → a ≤ 2 ^ 20 → p ≤ 2 ^ 20 → a * p ≤ 2 ^ 40
small-product a p h k = mul-le a p (2 ^ 20) (2 ^ 20) h k

place_twice : (turned : Bool) (m q : ℕ) → q < m → cond turned (m - 1 - cond turned (m - 1 - q) q) (cond turned (m - 1 - q) q) ≡ q
place_twice true m q h = omega arith
place_twice false m q h = refl

place_lt : (turned : Bool) (m q : ℕ) → q < m → cond turned (m - 1 - q) q < m
place_lt true m q h = omega arith
place_lt false m q h = h

pub place-lt : (e : Equation) (q : ℕ) → q < e.m → place e q < e.m
place-lt e q h = place_lt e.turned e.m q h

-- a place of a place is the position itself
pub place-place : (e : Equation) (q : ℕ) → q < e.m → place e (place e q) ≡ q
place-place e q h = place_twice e.turned e.m q h

-- a pair that is least among the solutions is so among the positions for which they stand
module _ (e : Equation) (W : ℕ → ℕ → Type 0) (straight : e.b ≡ 0 → e.turned ≡ false) (within : (p q : ℕ) → W p q → q < e.m) (stands : (p q : ℕ) → q < e.m → W p q ↔ Solves e p (place e q)) where
  place_le : (turned : Bool) (p q p' q' : ℕ) → e.turned ≡ turned → q' < e.m → Solves e p q → Solves e p' (place e q') → p ≡ p' → q ≤ place e q' → place e q ≤ q'
  place_le false p q p' q' is h s s' same le =
      let at_q = ap (λ t. cond t (e.m - 1 - q) q) is in
      let at_q' = ap (λ t. cond t (e.m - 1 - q') q') is in
      omega (arith, at_q, at_q')
  place_le true p q p' q' is h s s' same le =
      let cases : (e.b ≡ 0) ⊎ (0 < e.b) = grind arith in
      elim cases [
        | inl level ↦ absurd (false≢true (sym (straight level) ∙ is))
        | inr some ↦
            let back = same_q e.b e.v (e.a * p' + e.u) (place e q') q some s'.same (ap (λ n. e.a * n + e.u) (sym same) ∙ s.same) in
            let e' : q ≡ place e q' = omega arith in
            omega (arith, ap (place e) e', place-place e q' h)
      ]

  pub least-place : (p q : ℕ) → IsLeast (Solves e) p q → IsLeast W p (place e q)
  least-place p q l =
      let h = l.holds.second in
      record {
        holds = (stands p (place e q) (place-lt e q h)).1 (subst (Solves e p) (sym (place-place e q h)) l.holds);
        least = λ p' q' w.
            let h' = within p' q' w in
            let s' = (stands p' q' h').0 w in
            elim (l.least p' (place e q') s') [
              | inl less ↦ inl less
              | inr same ↦ inr (same.0, place_le e.turned p q p' q' refl h' l.holds s' same.0 same.1)
            ];
      }
