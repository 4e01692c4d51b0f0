-- The least and the greatest of signed numbers, eight at once.
use Rattle.std.proofs.Common.{◌≡◌, ℕ, ◌-◌, ◌^◌, Bool, true, false, cond, List, [], ◌∷◌, ◌++◌, length, map, fold, ℤ, refl, ap, sym, subst, ◌∙◌, ◌⊎◌, inl, inr, arith, w64, to_z, of_z, SFits}
use Rattle.std.specs.Prelude.{int_lt}
use Rattle.std.specs.Int.{int_min, int_max}
use lib.Lanes.{Each1, zip2, sel_l, top}
use Rattle.std.proofs.lemmas.Bool.Decides.{nat_tests}
use Rattle.std.proofs.lemmas.Int.{ints, clamps, to_z-of_z}
use Rattle.std.proofs.lemmas.List.Sums.{fold-append}
use Rattle.std.proofs.lemmas.Simd.{tops_compared, length-zip2}
use Rattle.pts_lanes.specs.Lanes.{Enclose, IsKept, widened}
use Rattle.pts_lanes.proofs.Groupings.{fold-joined}

-- a comparison of the bits
abbrev pub signed-lt : ℕ → ℕ → Bool
signed-lt m n = int_lt (to_z w64 m) (to_z w64 n)

lesser : (x y : ℤ) → SFits w64 x → SFits w64 y → to_z w64 (cond (signed-lt (of_z w64 x) (of_z w64 y)) (of_z w64 x) (of_z w64 y)) ≡ int_min x y
lesser x y p q = rw (to_z-of_z w64 x p, to_z-of_z w64 y q) (go (int_lt x y) refl) where
  go : (b : Bool) → int_lt x y ≡ b → to_z w64 (cond b (of_z w64 x) (of_z w64 y)) ≡ int_min x y
  go true e = to_z-of_z w64 x p ∙ grind (arith, ints, clamps, nat_tests)
  go false e = to_z-of_z w64 y q ∙ grind (arith, ints, clamps, nat_tests)

greater : (x y : ℤ) → SFits w64 x → SFits w64 y → to_z w64 (cond (signed-lt (of_z w64 x) (of_z w64 y)) (of_z w64 y) (of_z w64 x)) ≡ int_max x y
greater x y p q = rw (to_z-of_z w64 x p, to_z-of_z w64 y q) (go (int_lt x y) refl) where
  go : (b : Bool) → int_lt x y ≡ b → to_z w64 (cond b (of_z w64 y) (of_z w64 x)) ≡ int_max x y
  go true e = to_z-of_z w64 y q ∙ grind (arith, ints, clamps, nat_tests)
  go false e = to_z-of_z w64 x p ∙ grind (arith, ints, clamps, nat_tests)

-- ---- lists

-- what the bits keep is read back
pub read-back : (xs : List ℤ) → Each1 IsKept xs → map (to_z w64) (map (of_z w64) xs) ≡ xs
read-back [] p = refl
read-back (x ∷ xs) p = ap (λ z. z ∷ map (to_z w64) (map (of_z w64) xs)) (to_z-of_z w64 x p.0) ∙ ap (λ l. x ∷ l) (read-back xs p.1)

abbrev pub compared : List ℤ → List ℤ → List ℕ
compared xs ys = zip2 (λ a b. cond (signed-lt a b) (2 ^ 64 - 1) 0) (map (of_z w64) xs) (map (of_z w64) ys)

abbrev pub lower : List ℤ → List ℤ → List ℤ
lower xs ys = map (to_z w64) (sel_l (map (top 63) (compared xs ys)) (map (of_z w64) xs) (map (of_z w64) ys))

abbrev pub upper : List ℤ → List ℤ → List ℤ
upper xs ys = map (to_z w64) (sel_l (map (top 63) (compared xs ys)) (map (of_z w64) ys) (map (of_z w64) xs))

lower-is : (xs ys : List ℤ) → Each1 IsKept xs → Each1 IsKept ys → lower xs ys ≡ zip2 int_min xs ys
lower-is xs ys p q = ap (λ ms. map (to_z w64) (sel_l ms (map (of_z w64) xs) (map (of_z w64) ys))) (tops_compared w64 signed-lt (map (of_z w64) xs) (map (of_z w64) ys)) ∙ go xs ys p q where
  go : (xs ys : List ℤ) → Each1 IsKept xs → Each1 IsKept ys → map (to_z w64) (sel_l (zip2 signed-lt (map (of_z w64) xs) (map (of_z w64) ys)) (map (of_z w64) xs) (map (of_z w64) ys)) ≡ zip2 int_min xs ys
  go [] ys p q = refl
  go (x ∷ xs) [] p q = refl
  go (x ∷ xs) (y ∷ ys) p q =
      ap (λ z. z ∷ map (to_z w64) (sel_l (zip2 signed-lt (map (of_z w64) xs) (map (of_z w64) ys)) (map (of_z w64) xs) (map (of_z w64) ys))) (lesser x y p.0 q.0)
      ∙ ap (λ l. int_min x y ∷ l) (go xs ys p.1 q.1)

upper-is : (xs ys : List ℤ) → Each1 IsKept xs → Each1 IsKept ys → upper xs ys ≡ zip2 int_max xs ys
upper-is xs ys p q = ap (λ ms. map (to_z w64) (sel_l ms (map (of_z w64) ys) (map (of_z w64) xs))) (tops_compared w64 signed-lt (map (of_z w64) xs) (map (of_z w64) ys)) ∙ go xs ys p q where
  go : (xs ys : List ℤ) → Each1 IsKept xs → Each1 IsKept ys → map (to_z w64) (sel_l (zip2 signed-lt (map (of_z w64) xs) (map (of_z w64) ys)) (map (of_z w64) ys) (map (of_z w64) xs)) ≡ zip2 int_max xs ys
  go [] ys p q = refl
  go (x ∷ xs) [] p q = refl
  go (x ∷ xs) (y ∷ ys) p q =
      ap (λ z. z ∷ map (to_z w64) (sel_l (zip2 signed-lt (map (of_z w64) xs) (map (of_z w64) ys)) (map (of_z w64) ys) (map (of_z w64) xs))) (greater x y p.0 q.0)
      ∙ ap (λ l. int_max x y ∷ l) (go xs ys p.1 q.1)

-- ---- what encloses, joined

kept-either : (f : ℤ → ℤ → ℤ) → ((x y : ℤ) → (f x y ≡ x) ⊎ (f x y ≡ y)) → (xs ys : List ℤ) → Each1 IsKept xs → Each1 IsKept ys → Each1 IsKept (zip2 f xs ys)
kept-either f one [] ys p q = tt
kept-either f one (x ∷ xs) [] p q = tt
kept-either f one (x ∷ xs) (y ∷ ys) p q =
    (elim (one x y) [ inl e ↦ subst IsKept (sym e) p.0 | inr e ↦ subst IsKept (sym e) q.0 ], kept-either f one xs ys p.1 q.1)

folded-both : (f : ℤ → ℤ → ℤ) → ((x y z : ℤ) → f (f x y) z ≡ f x (f y z)) → ((x y : ℤ) → f x y ≡ f y x) → (u v xs ys : List ℤ) → length u ≡ length v
    → ((a : ℤ) → fold f a u ≡ fold f a xs) → ((a : ℤ) → fold f a v ≡ fold f a ys) → (a : ℤ)
    → fold f a (zip2 f u v) ≡ fold f a (xs ++ ys)
folded-both f grouped turned u v xs ys long p q a =
    fold-joined f grouped turned a u v long ∙ ap (λ b. fold f b v) (p a) ∙ q (fold f a xs) ∙ sym (fold-append f a xs ys)

pub enclose-joined : (u v : List ℤ × List ℤ) (xs ys : List ℤ) → Enclose u xs → Enclose v ys → Enclose (lower u.0 v.0, upper u.1 v.1) (xs ++ ys)
enclose-joined u v xs ys p q =
    let lows = lower-is u.0 v.0 p.low q.low in
    let highs = upper-is u.1 v.1 p.high q.high in
    record {
      least = λ a. ap (fold int_min a) lows ∙ folded-both int_min (λ x y z. omega (arith, ints, clamps)) (λ x y. omega (arith, ints, clamps)) u.0 v.0 xs ys (omega arith) p.least q.least a;
      greatest = λ a. ap (fold int_max a) highs ∙ folded-both int_max (λ x y z. omega (arith, ints, clamps)) (λ x y. omega (arith, ints, clamps)) u.1 v.1 xs ys (omega arith) p.greatest q.greatest a;
      eight = (ap length lows ∙ length-zip2 int_min u.0 v.0 (omega arith) ∙ p.eight.0, ap length highs ∙ length-zip2 int_max u.1 v.1 (omega arith) ∙ p.eight.1);
      low = subst (Each1 IsKept) (sym lows) (kept-either int_min (λ x y. grind (arith, ints, clamps)) u.0 v.0 p.low q.low);
      high = subst (Each1 IsKept) (sym highs) (kept-either int_max (λ x y. grind (arith, ints, clamps)) u.1 v.1 p.high q.high);
    }

-- one vector that was loaded encloses its items
pub enclose-loaded : (items : List ℤ) → length items ≡ 8 → Each1 IsKept items → Enclose (map (to_z w64) (map (of_z w64) items), map (to_z w64) (map (of_z w64) items)) items
enclose-loaded items long p =
    let e = read-back items p in
    record {
      least = λ a. ap (fold int_min a) e;
      greatest = λ a. ap (fold int_max a) e;
      eight = (ap length e ∙ long, ap length e ∙ long);
      low = subst (Each1 IsKept) (sym e) p;
      high = subst (Each1 IsKept) (sym e) p;
    }

-- widening ends over items is folding the one end and the other
pub widened-is : (ends : ℤ × ℤ) (items : List ℤ) → fold widened ends items ≡ (fold int_min ends.0 items, fold int_max ends.1 items)
widened-is ends [] = refl
widened-is ends (x ∷ items) = widened-is (widened ends x) items

-- and so the items that lanes enclose widen any ends as the lanes do
pub widened-by-lanes : (ends : ℤ × ℤ) (lanes : List ℤ × List ℤ) (items : List ℤ) → Enclose lanes items → (low high : ℤ × ℤ)
    → low ≡ fold widened ends (map (to_z w64) (map (of_z w64) lanes.0)) → high ≡ fold widened ends (map (to_z w64) (map (of_z w64) lanes.1)) → (low.0, high.1) ≡ fold widened ends items
widened-by-lanes ends lanes items p low high e h =
    ap (λ z. (z, high.1)) (ap (λ w. w.0) (e ∙ ap (fold widened ends) (read-back lanes.0 p.low) ∙ widened-is ends lanes.0) ∙ p.least ends.0)
    ∙ ap (λ z. (fold int_min ends.0 items, z)) (ap (λ w. w.1) (h ∙ ap (fold widened ends) (read-back lanes.1 p.high) ∙ widened-is ends lanes.1) ∙ p.greatest ends.1)
    ∙ sym (widened-is ends items)
