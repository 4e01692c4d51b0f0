-- Where one reach is first past its array.
use Rattle.std.proofs.Common.{◌≡◌, ℕ, zero, suc, ◌+◌, ◌-◌, ◌*◌, ◌/◌, ◌<◌, ◌≤◌, Bool, true, false, not, Option, Some, None, ℤ, pos, negsuc, ◌+ℤ◌, ◌-ℤ◌, ◌*ℤ◌, inl, inr, refl, ap, sym, ◌∙◌, arith}
use Rattle.std.specs.Prelude.{◌&&◌, ◌==◌, ◌≤ℤ◌, ◌<ℤ◌, nat_abs, nat_lt, int_le, int_lt, if◌then◌else◌, IsTrue}
use Rattle.std.proofs.lemmas.Int.{ints}
use Rattle.std.proofs.lemmas.Nat.{div_below, div-add-mod', mod_below}
use Rattle.std.proofs.lemmas.Bool.{cases_lt, lt-ltb, le-ltb, le-leb, ltb-true, ltb-false, false≢true, and_parts, and_from, eq-eqb, eqb-true}
use Rattle.pts_affine.specs.declared.line.Line.{Line}
use Rattle.pts_affine.specs.Lines.{cell}
use Rattle.pts_rules.specs.Known.{natural}
use Rattle.pts_rules.specs.Indices.{Reach, Span, Along, leaves}
use Rattle.pts_bounds.specs.Firsts.{IsFirst, first_leaving, first_off, first_past, later_off, room, span_first}

-- ---- the first multiple that is farther

past-at : (pace far : ℕ) → 0 < pace → far < pace * (far / pace + 1)
past-at pace far h = let e = div-add-mod' far pace in let m = mod_below far pace h in omega (arith, e, m)

past-least : (pace far p : ℕ) → 0 < pace → far < pace * p → far / pace + 1 ≤ p
past-least pace far p h k = let b : far < p * pace = omega (arith, k) in let d = div_below far pace p h b in omega (arith, d)

paced : (pace far p : ℕ) → far < pace * p → 0 < pace
paced zero far p h = omega (arith, h)
paced (suc a) far p h = omega arith

past-first : (pace far n : ℕ) → IsFirst (λ p. nat_lt p n && nat_lt far (pace * p)) (first_past pace far n)
past-first pace far n = go (nat_lt 0 pace) (nat_lt (far / pace + 1) n) refl refl where
  reached : (p : ℕ) → IsTrue (nat_lt p n && nat_lt far (pace * p)) → (p < n) × (far < pace * p)
  reached p h = let both = and_parts (nat_lt p n) (nat_lt far (pace * p)) h in (ltb-true p n both.0, ltb-true far (pace * p) both.1)

  go : (s t : Bool) → nat_lt 0 pace ≡ s → nat_lt (far / pace + 1) n ≡ t → IsFirst (λ p. nat_lt p n && nat_lt far (pace * p)) (if s && t then Some (far / pace + 1) else None)
  go true true moves within = (
    and_from (nat_lt (far / pace + 1) n) (nat_lt far (pace * (far / pace + 1))) within (lt-ltb far (pace * (far / pace + 1)) (past-at pace far (ltb-true 0 pace moves))),
    λ q h. let r = reached q h in past-least pace far q (ltb-true 0 pace moves) r.1,
  )
  go true false moves beyond = λ p h.
      let r = reached p h in
      let l = past-least pace far p (ltb-true 0 pace moves) r.1 in
      let b = ltb-false (far / pace + 1) n beyond in
      omega (arith, l, b, r.0)
  go false t still e = λ p h.
      let r = reached p h in
      let m = paced pace far p r.1 in
      let b = ltb-false 0 pace still in
      omega (arith, m, b)

-- ---- cells past an array

minus-is : (u l : ℕ) → u < l → natural (pos l -ℤ pos u -ℤ pos 1) ≡ l - u - 1
minus-is u l h = let e : pos l -ℤ pos u -ℤ pos 1 ≡ pos (l - u - 1) = omega (arith, ints) in ap natural e

above : (u l m : ℕ) → u < l → not (nat_lt (m + u) l) ≡ nat_lt (l - u - 1) m
above u l m h =
    elim (cases_lt (m + u) l) [
      | inl less ↦ ap not (lt-ltb (m + u) l less) ∙ sym (le-ltb (l - u - 1) m (omega (arith, less)))
      | inr more ↦ ap not (le-ltb (m + u) l more) ∙ sym (lt-ltb (l - u - 1) m (omega (arith, more)))
    ]

abbrev outside : ℤ → ℤ → Bool
outside z length = not (int_le (pos 0) z && int_lt z length)

outside-natural : (n l : ℕ) → outside (pos n) (pos l) ≡ not (nat_lt n l)
outside-natural n l = ap (λ b. not (b && nat_lt n l)) (le-leb 0 n (omega arith))

below : (u l m : ℕ) → u < l → outside (pos u -ℤ pos m) (pos l) ≡ nat_lt u m
below u l m h =
    elim (cases_lt u m) [
      | inl less ↦
          let e : pos u -ℤ pos m ≡ negsuc (m - u - 1) = omega (arith, ints) in
          ap (λ z. outside z (pos l)) e ∙ sym (lt-ltb u m less)
      | inr more ↦
          let e : pos u -ℤ pos m ≡ pos (u - m) = omega (arith, ints) in
          ap (λ z. outside z (pos l)) e ∙ outside-natural (u - m) l ∙ ap not (lt-ltb (u - m) l (omega arith)) ∙ sym (le-ltb u m more)
    ]

falls : (a u p : ℕ) → negsuc a *ℤ pos p +ℤ pos u ≡ pos u -ℤ pos (suc a * p)
falls a u p = omega (arith, ints)

off : (c d length : ℤ) (p : ℕ) → pos 0 ≤ℤ d → d <ℤ length → outside (c *ℤ pos p +ℤ d) length ≡ nat_lt (room c d length) (nat_abs c * p)
off (pos zero) (pos u) (pos l) p h k = let less : u < l = omega (arith, ints, k) in outside-natural (0 * p + u) l ∙ ap not (lt-ltb (0 * p + u) l (omega (arith, less))) ∙ sym (le-ltb u (0 * p) (omega arith))
off (pos (suc a)) (pos u) (pos l) p h k = let less : u < l = omega (arith, ints, k) in outside-natural (suc a * p + u) l ∙ above u l (suc a * p) less ∙ ap (λ r. nat_lt r (suc a * p)) (sym (minus-is u l less))
    ∙ ap (λ b. nat_lt (if b then natural (pos l -ℤ pos u -ℤ pos 1) else u) (suc a * p)) (sym (lt-ltb 0 (suc a) (omega arith)))
off (negsuc a) (pos u) (pos l) p h k = let less : u < l = omega (arith, ints, k) in ap (λ z. outside z (pos l)) (falls a u p) ∙ below u l (suc a * p) less
off c (negsuc u) length p h k = absurd (omega (arith, ints, h))
off c (pos u) (negsuc l) p h k = absurd (omega (arith, ints, h, k))

-- ---- reaches

span-leaves : (low high length : ℤ) → IsFirst (λ p. leaves p (Span low high length)) (span_first low high length)
span-leaves low high length = go (int_lt length high) refl where
  go : (b : Bool) → int_lt length high ≡ b → IsFirst (λ p. b && p == natural (length -ℤ low)) (if b then Some (natural (length -ℤ low)) else None)
  go true e = (eq-eqb (natural (length -ℤ low)) (natural (length -ℤ low)) refl, λ q h. let same = eqb-true q (natural (length -ℤ low)) h in omega (arith, same))
  go false e = λ p h. false≢true h

-- tests that agree have the same first position
pub same-first : (P Q : ℕ → Bool) (x : Option ℕ) → ((p : ℕ) → P p ≡ Q p) → IsFirst P x → IsFirst Q x
same-first P Q None same first = λ p h. first p (same p ∙ h)
same-first P Q (Some x) same first = (sym (same x) ∙ first.0, λ q h. first.1 q (same q ∙ h))

first-cell : (c d : ℤ) → c *ℤ pos 0 +ℤ d ≡ d
first-cell (pos a) d = omega (arith, ints)
first-cell (negsuc a) d = omega (arith, ints)

abbrev inside : ℤ → ℤ → Bool
inside z length = int_le (pos 0) z && int_lt z length

bounds : (d length : ℤ) → inside d length ≡ true → (pos 0 ≤ℤ d) × (d <ℤ length)
bounds d length e = let both = and_parts (int_le (pos 0) d) (int_lt d length) e in (grind (arith, ints), grind (arith, ints))

along-leaves : (line : Line) (length : ℤ) → IsFirst (λ p. leaves p (Along line length)) (first_off line length)
along-leaves line length = go (nat_lt 0 line.n) (inside line.d length) refl refl where
  go : (s t : Bool) → nat_lt 0 line.n ≡ s → inside line.d length ≡ t → IsFirst (λ p. leaves p (Along line length)) (if s then (if t then later_off line length else Some 0) else None)
  go false t empty e = λ p h. let l = ltb-true p line.n (and_parts (nat_lt p line.n) (outside (cell line p) length) h).0 in let b = ltb-false 0 line.n empty in omega (arith, l, b)
  go true false some e = (and_from (nat_lt 0 line.n) (outside (cell line 0) length) some (ap (λ z. outside z length) (first-cell line.c line.d) ∙ ap not e), λ q h. omega arith)
  go true true some e =
      let at = bounds line.d length e in
      same-first (λ p. nat_lt p line.n && nat_lt (room line.c line.d length) (nat_abs line.c * p)) (λ p. leaves p (Along line length)) (later_off line length)
      (λ p. ap (λ b. nat_lt p line.n && b) (sym (off line.c line.d length p at.0 at.1))) (past-first (nat_abs line.c) (room line.c line.d length) line.n)

pub reach-leaves : (x : Reach) → IsFirst (λ p. leaves p x) (first_leaving x)
reach-leaves (Span low high length) = span-leaves low high length
reach-leaves (Along line length) = along-leaves line length
