-- Opposite branches by one pass over two ascending lists of tests.
use Rattle.std.proofs.Common.{◌≡◌, ℕ, zero, suc, ◌+◌, ◌<◌, ◌≤◌, true, false, List, [], ◌∷◌, length, get_or, drop, refl, sym, ap, ◌∙◌, subst, arith}
use Rattle.std.specs.List.{list_any}
use Rattle.std.proofs.lemmas.Bool.Decides.{nat_tests}
use Rattle.std.proofs.lemmas.List.{drop_all, drop_more}
use Rattle.pts_points.specs.declared.point.Branch.{Branch}
use Rattle.pts_points.specs.Standings.{Ascends}
use Rattle.pts_conflict.specs.Order.{are_opposite, are_sides, same_side}

-- ---- tests that ascend from a number on

-- each test is at least this number
abbrev pub From : ℕ → List Branch → Type 0
From low bs = (n : ℕ) × Ascends low bs n

tail : (low : ℕ) (b : Branch) (bs : List Branch) → From low (b ∷ bs) → From (b.test + 1) bs
tail low b bs h = (h.0, h.1.1)

higher : (low low' : ℕ) (bs : List Branch) → low' ≤ low → From low bs → From low' bs
higher low low' [] less h = (h.0, (let k = h.1 in omega (arith, less, k)))
higher low low' (b ∷ bs) less h = (h.0, ((let k = h.1.0 in omega (arith, less, k)), h.1.1))

pub dropped : (low : ℕ) (bs : List Branch) (i : ℕ) → From low bs → From low (drop i bs)
dropped low bs zero h = h
dropped low [] (suc i) h = h
dropped low (b ∷ bs) (suc i) h = dropped low bs i (higher (b.test + 1) low bs (let k = h.1.0 in omega (arith, k)) (tail low b bs h))

-- a test below all of these has its other side nowhere among them
none_beside : (b : Branch) (low : ℕ) (cs : List Branch) → b.test < low → From low cs → list_any (are_sides b) cs ≡ false
none_beside b low [] less h = refl
none_beside b low (c ∷ cs) less h =
    let first = h.1.0 in
    let rest = none_beside b (c.test + 1) cs (omega (arith, less, first)) (tail low c cs h) in
    grind (arith, nat_tests, less, first, rest)

-- and none of these has its other side there
none_opposite : (bs : List Branch) (c : Branch) (cs : List Branch) (low : ℕ) → c.test < low → From low bs → are_opposite bs (c ∷ cs) ≡ are_opposite bs cs
none_opposite [] c cs low less h = refl
none_opposite (b ∷ bs) c cs low less h =
    let first = h.1.0 in
    let rest = none_opposite bs c cs (b.test + 1) (omega (arith, less, first)) (tail low b bs h) in
    grind (arith, nat_tests, less, first, rest)

-- ---- one step

module _ (b c : Branch) (bs cs : List Branch) (low low' : ℕ) (first : From low (b ∷ bs)) (second : From low' (c ∷ cs)) where
  below_all : (n : ℕ) → b.test < c.test → list_any (are_sides b) (c ∷ cs) ≡ false
  below_all n less =
      let rest = none_beside b (c.test + 1) cs (omega (arith, less)) (tail low' c cs second) in
      grind (arith, nat_tests, less, rest)

  skip_first : b.test < c.test → are_opposite (b ∷ bs) (c ∷ cs) ≡ are_opposite bs (c ∷ cs)
  skip_first less = let none = below_all 0 less in grind (arith, none)

  skip_second : c.test < b.test → are_opposite (b ∷ bs) (c ∷ cs) ≡ are_opposite (b ∷ bs) cs
  skip_second less = none_opposite (b ∷ bs) c cs b.test less (first.0, ((omega arith), first.1.1))

  skip_both : b.test ≡ c.test → same_side b.taken c.taken ≡ true → are_opposite (b ∷ bs) (c ∷ cs) ≡ are_opposite bs cs
  skip_both same side =
      let beside = none_beside b (c.test + 1) cs (omega (arith, same)) (tail low' c cs second) in
      let rest = none_opposite bs c cs (b.test + 1) (omega (arith, same)) (tail low b bs first) in
      grind (arith, nat_tests, same, side, beside, rest)

  other_sides : b.test ≡ c.test → same_side b.taken c.taken ≡ false → are_opposite (b ∷ bs) (c ∷ cs) ≡ true
  other_sides same side = grind (arith, nat_tests, same, side)

-- ---- the loop

-- what is left of both lists decides
abbrev pub Left : List Branch → List Branch → ℕ → ℕ → Type 0
Left bs cs i j = are_opposite (drop i bs) (drop j cs) ≡ are_opposite bs cs

module _ (bs cs : List Branch) (first : From 0 bs) (second : From 0 cs) (i j : ℕ) (b c d e : Branch) (within : i < length bs) (inside : j < length cs)
    (is : b ≡ get_or bs i d) (are : c ≡ get_or cs j e) (left : Left bs cs i j) where
  front : drop i bs ≡ b ∷ drop (i + 1) bs
  front = drop_more bs i d within ∙ ap (λ x. x ∷ drop (i + 1) bs) (sym is)

  back : drop j cs ≡ c ∷ drop (j + 1) cs
  back = drop_more cs j e inside ∙ ap (λ x. x ∷ drop (j + 1) cs) (sym are)

  opened : are_opposite (b ∷ drop (i + 1) bs) (c ∷ drop (j + 1) cs) ≡ are_opposite bs cs
  opened = (λ k. are_opposite (sym front k) (sym back k)) ∙ left

  first_from : From 0 (b ∷ drop (i + 1) bs)
  first_from = subst (From 0) front (dropped 0 bs i first)

  second_from : From 0 (c ∷ drop (j + 1) cs)
  second_from = subst (From 0) back (dropped 0 cs j second)

  pub step_first : b.test < c.test → Left bs cs (i + 1) j
  step_first less =
      (λ k. are_opposite (drop (i + 1) bs) (back k))
      ∙ sym (skip_first b c (drop (i + 1) bs) (drop (j + 1) cs) 0 0 first_from second_from less) ∙ opened

  pub step_second : c.test < b.test → Left bs cs i (j + 1)
  step_second less =
      (λ k. are_opposite (front k) (drop (j + 1) cs))
      ∙ sym (skip_second b c (drop (i + 1) bs) (drop (j + 1) cs) 0 0 first_from second_from less) ∙ opened

  pub step_both : b.test ≡ c.test → same_side b.taken c.taken ≡ true → Left bs cs (i + 1) (j + 1)
  step_both same side = sym (skip_both b c (drop (i + 1) bs) (drop (j + 1) cs) 0 0 first_from second_from same side) ∙ opened

  pub stops : b.test ≡ c.test → same_side b.taken c.taken ≡ false → true ≡ are_opposite bs cs
  stops same side = sym (other_sides b c (drop (i + 1) bs) (drop (j + 1) cs) 0 0 first_from second_from same side) ∙ opened

opposite_none : (bs : List Branch) → are_opposite bs [] ≡ false
opposite_none [] = refl
opposite_none (b ∷ bs) = opposite_none bs

pub ends_first : (bs cs : List Branch) (i j : ℕ) → length bs ≤ i → Left bs cs i j → false ≡ are_opposite bs cs
ends_first bs cs i j all left = (λ k. are_opposite (sym (drop_all i bs all) k) (drop j cs)) ∙ left

pub ends_second : (bs cs : List Branch) (i j : ℕ) → length cs ≤ j → Left bs cs i j → false ≡ are_opposite bs cs
ends_second bs cs i j all left = sym (opposite_none (drop i bs)) ∙ (λ k. are_opposite (drop i bs) (sym (drop_all j cs all) k)) ∙ left
