-- The equation of two lines, in the four cases of their signs.
use Rattle.std.proofs.Common.{◌≡◌, ℕ, ◌+◌, ◌-◌, ◌*◌, ◌^◌, ◌<◌, ◌≤◌, Bool, true, false, ℤ, pos, ap, ◌∙◌, subst, arith, w64, to_z, of_z, SFits}
use Rattle.std.specs.Prelude.{◌↔◌, ◌≤ℤ◌, unsigned_abs, int_lt}
use Rattle.std.proofs.lemmas.Int.{ints, to_z-of_z}
use Rattle.pts_affine.specs.declared.line.Line.{Line}
use Rattle.pts_affine.specs.declared.equation.Equation.{Equation}
use Rattle.pts_affine.specs.Equations.{IsSmall, IsWanted, Solves}
use Rattle.pts_affine.specs.Lines.{IsBounded, cell}
use Rattle.pts_affine.proofs.Cells.{start, small-start, small-slope, both_rise, both_fall, first_falls, second_falls, turned_is}
use Rattle.pts_affine.proofs.Partners.{small-product}

-- a field as the code reads it is the field
pub abs_of : (z : ℤ) (n : ℕ) → SFits w64 z → n ≡ unsigned_abs (to_z w64 (of_z w64 z)) → n ≡ unsigned_abs z
abs_of z n fits e = e ∙ ap unsigned_abs (to_z-of_z w64 z fits)

at_field : (P : ℤ → Type 0) (z : ℤ) → SFits w64 z → P (to_z w64 (of_z w64 z)) → P z
at_field P z fits h = subst P (to_z-of_z w64 z fits) h

pub is-negative : (z : ℤ) → SFits w64 z → int_lt (to_z w64 (of_z w64 z)) (pos 0) ≡ true → z ≤ℤ pos 0
is-negative z fits h = let k : int_lt z (pos 0) ≡ true = at_field (λ n. int_lt n (pos 0) ≡ true) z fits h in grind (arith, ints)

pub not-negative : (z : ℤ) → SFits w64 z → int_lt (to_z w64 (of_z w64 z)) (pos 0) ≡ false → pos 0 ≤ℤ z
not-negative z fits h = let k : int_lt z (pos 0) ≡ false = at_field (λ n. int_lt n (pos 0) ≡ false) z fits h in grind (arith, ints)

pub is-positive : (z : ℤ) → SFits w64 z → int_lt (pos 0) (to_z w64 (of_z w64 z)) ≡ true → pos 0 ≤ℤ z
is-positive z fits h = let k : int_lt (pos 0) z ≡ true = at_field (λ n. int_lt (pos 0) n ≡ true) z fits h in grind (arith, ints)

pub not-positive : (z : ℤ) → SFits w64 z → int_lt (pos 0) (to_z w64 (of_z w64 z)) ≡ false → z ≤ℤ pos 0
not-positive z fits h = let k : int_lt (pos 0) z ≡ false = at_field (λ n. int_lt (pos 0) n ≡ false) z fits h in grind (arith, ints)

module _ (x y : Line) (after : Bool) (hx : IsBounded x) (hy : IsBounded y) (some_x : 0 < x.n) (some_y : 0 < y.n) where
  abbrev equation_of : ℕ → ℕ → Bool → Equation
  equation_of u v turned = record { a = unsigned_abs x.c; u = u; n = x.n; b = unsigned_abs y.c; v = v; m = y.n; after = after; turned = turned }

  abbrev across : ℕ
  across = unsigned_abs y.c * (y.n - 1)

  pub small-across : across ≤ 2 ^ 40
  small-across = small-product (unsigned_abs y.c) (y.n - 1) (small-slope y hy some_y) (omega (arith, hy.positions))

  small : (u v : ℕ) (turned : Bool) → u ≤ 2 ^ 42 → v ≤ 2 ^ 20 → IsSmall (equation_of u v turned)
  small u v turned h k = record {
    a = small-slope x hx some_x;
    b = small-slope y hy some_y;
    u = h;
    v = k;
    n = hx.positions;
    m = hy.positions;
    some = some_y;
  }

  -- the two numbers at the ends, as they are and with the second line turned
  pub small-straight : IsSmall (equation_of (unsigned_abs x.d) (unsigned_abs y.d) false)
  small-straight = small (unsigned_abs x.d) (unsigned_abs y.d) false (omega (arith, small-start x hx some_x)) (omega (arith, small-start y hy some_y))

  pub small-crossed : IsSmall (equation_of (unsigned_abs y.d) (unsigned_abs x.d) false)
  small-crossed = small (unsigned_abs y.d) (unsigned_abs x.d) false (omega (arith, small-start y hy some_y)) (omega (arith, small-start x hx some_x))

  pub small-second : IsSmall (equation_of (unsigned_abs x.d + across) (unsigned_abs y.d) true)
  small-second = small (unsigned_abs x.d + across) (unsigned_abs y.d) true (omega (arith, small-start x hx some_x, small-across)) (omega (arith, small-start y hy some_y))

  pub small-first : IsSmall (equation_of (unsigned_abs y.d + across) (unsigned_abs x.d) true)
  small-first = small (unsigned_abs y.d + across) (unsigned_abs x.d) true (omega (arith, small-start y hy some_y, small-across)) (omega (arith, small-start x hx some_x))

  straight : (u v p q : ℕ) → (cell x p ≡ cell y q) ↔ (unsigned_abs x.c * p + u ≡ unsigned_abs y.c * q + v) → IsWanted after x y p q ↔ Solves (equation_of u v false) p q
  straight u v p q e = (
    λ w. record { first = w.0.first; second = w.0.second; same = e.0 w.0.same; order = w.1 },
    λ s. (record { first = s.first; second = s.second; same = e.1 s.same }, s.order),
  )

  turned : (u v p q : ℕ) → q < y.n → (cell x p ≡ cell y q) ↔ (unsigned_abs x.c * p + unsigned_abs y.c * q + u ≡ v) → IsWanted after x y p q ↔ Solves (equation_of (u + across) v true) p (y.n - 1 - q)
  turned u v p q h e =
      let t = turned_is (unsigned_abs x.c) (unsigned_abs y.c) u v p q y.n h in
      let back : y.n - 1 - (y.n - 1 - q) ≡ q = omega arith in (
        λ w. record { first = w.0.first; second = omega arith; same = t.0 (e.0 w.0.same); order = λ is_after. omega (arith, back, w.1 is_after) },
        λ s. (record { first = s.first; second = h; same = e.1 (t.1 s.same) }, λ is_after. omega (arith, back, s.order is_after)),
      )

  abbrev low_x : pos 0 ≤ℤ x.d
  low_x = (start x hx some_x).0

  abbrev low_y : pos 0 ≤ℤ y.d
  low_y = (start y hy some_y).0

  pub rising : (p q : ℕ) → q < y.n → pos 0 ≤ℤ x.c → pos 0 ≤ℤ y.c → IsWanted after x y p q ↔ Solves (equation_of (unsigned_abs x.d) (unsigned_abs y.d) false) p q
  rising p q h up_x up_y = straight (unsigned_abs x.d) (unsigned_abs y.d) p q (both_rise x y p q low_x low_y up_x up_y)

  pub crossed : (p q : ℕ) → q < y.n → x.c ≤ℤ pos 0 → y.c ≤ℤ pos 0 → IsWanted after x y p q ↔ Solves (equation_of (unsigned_abs y.d) (unsigned_abs x.d) false) p q
  crossed p q h down_x down_y = straight (unsigned_abs y.d) (unsigned_abs x.d) p q (both_fall x y p q low_x low_y down_x down_y)

  pub second-turned : (p q : ℕ) → q < y.n → pos 0 ≤ℤ x.c → y.c ≤ℤ pos 0 → IsWanted after x y p q ↔ Solves (equation_of (unsigned_abs x.d + across) (unsigned_abs y.d) true) p (y.n - 1 - q)
  second-turned p q h up_x down_y = turned (unsigned_abs x.d) (unsigned_abs y.d) p q h (second_falls x y p q low_x low_y up_x down_y)

  pub first-turned : (p q : ℕ) → q < y.n → x.c ≤ℤ pos 0 → pos 0 ≤ℤ y.c → IsWanted after x y p q ↔ Solves (equation_of (unsigned_abs y.d + across) (unsigned_abs x.d) true) p (y.n - 1 - q)
  first-turned p q h down_x up_y = turned (unsigned_abs y.d) (unsigned_abs x.d) p q h (first_falls x y p q low_x low_y down_x up_y)
