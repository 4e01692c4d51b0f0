-- The cells of bounded lines, as natural numbers.
use Rattle.std.proofs.Common.{◌≡◌, ℕ, zero, suc, ◌+◌, ◌-◌, ◌*◌, ◌^◌, ◌<◌, ◌≤◌, ℤ, pos, negsuc, ◌+ℤ◌, ◌-ℤ◌, ◌*ℤ◌, inl, inr, refl, ap, arith}
use Rattle.std.specs.Prelude.{◌↔◌, ◌⊎◌, ◌≤ℤ◌, ◌<ℤ◌, unsigned_abs}
use Rattle.std.proofs.lemmas.Int.{ints}
use Rattle.std.proofs.Math.Nat.{mul-le-mul_left}
use Rattle.pts_affine.specs.declared.line.Line.{Line}
use Rattle.pts_affine.specs.Lines.{IsBounded, IsCell, cell}

-- ---- what bounds a line's factor and its first cell

pub first-is : (c d : ℤ) → c *ℤ pos 0 +ℤ d ≡ d
first-is (pos a) d = omega (arith, ints)
first-is (negsuc a) d = omega (arith, ints)

pub start : (line : Line) → IsBounded line → 0 < line.n → (pos 0 ≤ℤ line.d) × (line.d <ℤ pos (2 ^ 20))
start line h some =
    let bounds = h.cells 0 some in
    let first = first-is line.c line.d in
    (omega (arith, ints, bounds, first), omega (arith, ints, bounds, first))

pub small-start : (line : Line) → IsBounded line → 0 < line.n → unsigned_abs line.d < 2 ^ 20
small-start line h some = let bounds = start line h some in omega (arith, ints, bounds)

slope : (c d : ℤ) → pos 0 ≤ℤ d → d <ℤ pos (2 ^ 20) → pos 0 ≤ℤ (c *ℤ pos 1 +ℤ d) → (c *ℤ pos 1 +ℤ d) <ℤ pos (2 ^ 20) → unsigned_abs c < 2 ^ 20
slope (pos a) d low high low1 high1 = omega (arith, ints)
slope (negsuc a) d low high low1 high1 = omega (arith, ints)

pub small-slope : (line : Line) → IsBounded line → 0 < line.n → unsigned_abs line.c ≤ 2 ^ 20
small-slope line h some =
    let cases : (line.n ≤ 1) ⊎ (1 < line.n) = grind arith in
    let low = start line h some in
    elim cases [
      | inl single ↦ omega (arith, ap unsigned_abs (h.level single))
      | inr more ↦ let next = h.cells 1 more in omega (arith, slope line.c line.d low.0 low.1 next.0 next.1)
    ]

-- ---- cells by the sign of the factor

rising-is : (c d : ℤ) (p : ℕ) → pos 0 ≤ℤ c → pos 0 ≤ℤ d → c *ℤ pos p +ℤ d ≡ pos (unsigned_abs c * p + unsigned_abs d)
rising-is (pos a) (pos u) p h k = refl
rising-is (pos a) (negsuc u) p h k = absurd (omega (arith, ints))
rising-is (negsuc a) d p h k = absurd (omega (arith, ints))

falling-is : (c d : ℤ) (p : ℕ) → c ≤ℤ pos 0 → pos 0 ≤ℤ d → c *ℤ pos p +ℤ d ≡ pos (unsigned_abs d) -ℤ pos (unsigned_abs c * p)
falling-is (pos zero) (pos u) p h k = omega (arith, ints)
falling-is (pos (suc a)) d p h k = absurd (omega (arith, ints))
falling-is (negsuc a) (pos u) p h k = omega (arith, ints)
falling-is c (negsuc u) p h k = absurd (omega (arith, ints))

-- ---- equal cells

module _ (x y : Line) (p q : ℕ) (from_x : pos 0 ≤ℤ x.d) (from_y : pos 0 ≤ℤ y.d) where
  abbrev a : ℕ
  a = unsigned_abs x.c * p

  abbrev b : ℕ
  b = unsigned_abs y.c * q

  pub both_rise : pos 0 ≤ℤ x.c → pos 0 ≤ℤ y.c → (cell x p ≡ cell y q) ↔ (a + unsigned_abs x.d ≡ b + unsigned_abs y.d)
  both_rise h k =
      let at_x = rising-is x.c x.d p h from_x in
      let at_y = rising-is y.c y.d q k from_y in
      (λ e. omega (arith, ints, e, at_x, at_y), λ e. omega (arith, ints, e, at_x, at_y))

  pub both_fall : x.c ≤ℤ pos 0 → y.c ≤ℤ pos 0 → (cell x p ≡ cell y q) ↔ (a + unsigned_abs y.d ≡ b + unsigned_abs x.d)
  both_fall h k =
      let at_x = falling-is x.c x.d p h from_x in
      let at_y = falling-is y.c y.d q k from_y in
      (λ e. omega (arith, ints, e, at_x, at_y), λ e. omega (arith, ints, e, at_x, at_y))

  pub second_falls : pos 0 ≤ℤ x.c → y.c ≤ℤ pos 0 → (cell x p ≡ cell y q) ↔ (a + b + unsigned_abs x.d ≡ unsigned_abs y.d)
  second_falls h k =
      let at_x = rising-is x.c x.d p h from_x in
      let at_y = falling-is y.c y.d q k from_y in
      (λ e. omega (arith, ints, e, at_x, at_y), λ e. omega (arith, ints, e, at_x, at_y))

  pub first_falls : x.c ≤ℤ pos 0 → pos 0 ≤ℤ y.c → (cell x p ≡ cell y q) ↔ (a + b + unsigned_abs y.d ≡ unsigned_abs x.d)
  first_falls h k =
      let at_x = falling-is x.c x.d p h from_x in
      let at_y = rising-is y.c y.d q k from_y in
      (λ e. omega (arith, ints, e, at_x, at_y), λ e. omega (arith, ints, e, at_x, at_y))

-- the second position counted from the end
pub turned_is : (a b u v p q m : ℕ) → q < m → (a * p + b * q + u ≡ v) ↔ (a * p + (u + b * (m - 1)) ≡ b * (m - 1 - q) + v)
turned_is a b u v p q m h =
    let times = ap (λ n. b * n) (let e : m - 1 ≡ (m - 1 - q) + q = omega arith in e) in
    (λ e. omega (arith, times), λ e. omega (arith, times))

-- ---- a line between its ends

between : (c d : ℤ) (p last : ℕ) → p ≤ last → IsCell (c *ℤ pos 0 +ℤ d) → IsCell (c *ℤ pos last +ℤ d) → IsCell (c *ℤ pos p +ℤ d)
between (pos a) d p last h low high =
    let more = mul-le-mul_left a h in
    (omega (arith, ints, low, high, more), omega (arith, ints, low, high, more))
between (negsuc a) d p last h low high =
    let more = mul-le-mul_left (suc a) h in
    (omega (arith, ints, low, high, more), omega (arith, ints, low, high, more))

pub bounded-by-ends : (line : Line) → line.n ≤ 2 ^ 20 → (line.n ≤ 1 → line.c ≡ pos 0) → IsCell (cell line 0) → IsCell (cell line (line.n - 1)) → IsBounded line
bounded-by-ends line few level first last = record {
  cells = λ p h. between line.c line.d p (line.n - 1) (omega arith) first last;
  positions = few;
  level = level;
}
