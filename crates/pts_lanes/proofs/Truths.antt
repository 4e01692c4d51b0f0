-- A comparison in eight lanes is the comparison of each pair.
use Rattle.std.proofs.Common.{◌≡◌, ℕ, ◌^◌, ◌-◌, zero, suc, min, max, Bool, true, false, cond, ltb, eqb, get_or, List, [], ◌∷◌, length, map, replicate, refl, ap, ◌∙◌, arith, w64}
use lib.Lanes.{zip2, sel_l, top}
use Rattle.pts_types.specs.Arithmetic.{number_of}
use Rattle.std.proofs.lemmas.Bool.Decides.{nat_tests}
use Rattle.std.proofs.lemmas.Simd.{tops_compared}

-- 1 where the test holds, and else 0
abbrev pub one_where : (ℕ → ℕ → Bool) → ℕ → ℕ → ℕ
one_where t m n = cond (t m n) 1 0

selected : (t : ℕ → ℕ → Bool) (xs ys : List ℕ) (n : ℕ) → length xs ≡ n → length ys ≡ n → sel_l (zip2 t xs ys) (replicate n 1) (replicate n 0) ≡ zip2 (one_where t) xs ys
selected t [] ys n p q = refl
selected t (x ∷ xs) [] n p q = absurd (omega arith)
selected t (x ∷ xs) (y ∷ ys) zero p q = absurd (omega arith)
selected t (x ∷ xs) (y ∷ ys) (suc n) p q = ap (λ l. one_where t x y ∷ l) (selected t xs ys n (omega arith) (omega arith))

-- what a selection by compared lanes gives, for vectors of 8
pub truths-selected : (t : ℕ → ℕ → Bool) (xs ys holds : List ℕ) → holds ≡ zip2 (λ a b. cond (t a b) (2 ^ 64 - 1) 0) xs ys → length xs ≡ 8
    → length ys ≡ 8
    → sel_l (map (top 63) holds) (replicate 8 1) (replicate 8 0) ≡ zip2 (one_where t) xs ys
truths-selected t xs ys holds e p q =
    ap (λ ms. sel_l ms (replicate 8 1) (replicate 8 0)) (ap (map (top 63)) e ∙ tops_compared w64 t xs ys) ∙ selected t xs ys 8 p q

-- each of eight numbers is 1
pub ones-read : (l : List ℕ) → length l ≡ 8
    → eqb (get_or l 0 0) 1 ∷ eqb (get_or l 1 0) 1 ∷ eqb (get_or l 2 0) 1 ∷ eqb (get_or l 3 0) 1 ∷ eqb (get_or l 4 0) 1 ∷ eqb (get_or l 5 0) 1 ∷ eqb (get_or l 6 0) 1 ∷ eqb (get_or l 7 0) 1 ∷ [] ≡ map (λ n. eqb n 1) l
ones-read (a ∷ b ∷ c ∷ d ∷ e ∷ f ∷ g ∷ h ∷ []) p = refl
ones-read l p = absurd (omega arith)

-- and what was 1 where a test holds tells the test
pub ones-tested : (t : ℕ → ℕ → Bool) (xs ys : List ℕ) → map (λ n. eqb n 1) (zip2 (one_where t) xs ys) ≡ zip2 t xs ys
ones-tested t [] ys = refl
ones-tested t (x ∷ xs) [] = refl
ones-tested t (x ∷ xs) (y ∷ ys) = ap (λ b. b ∷ map (λ n. eqb n 1) (zip2 (one_where t) xs ys)) (told (t x y)) ∙ ap (λ l. t x y ∷ l) (ones-tested t xs ys) where
  told : (b : Bool) → eqb (cond b 1 0) 1 ≡ b
  told true = refl
  told false = refl

-- two lists in the other order
pub turned : (f : ℕ → ℕ → ℕ) (xs ys : List ℕ) → zip2 f ys xs ≡ zip2 (λ a b. f b a) xs ys
turned f [] [] = refl
turned f [] (y ∷ ys) = refl
turned f (x ∷ xs) [] = refl
turned f (x ∷ xs) (y ∷ ys) = ap (λ l. f y x ∷ l) (turned f xs ys)

-- the lesser of each pair, chosen by a comparison
pub least-selected : (xs ys : List ℕ) → sel_l (map (top 63) (zip2 (λ a b. cond (ltb a b) (2 ^ 64 - 1) 0) xs ys)) xs ys ≡ zip2 min xs ys
least-selected xs ys = ap (λ ms. sel_l ms xs ys) (tops_compared w64 ltb xs ys) ∙ go xs ys where
  lesser : (x y : ℕ) → cond (ltb x y) x y ≡ min x y
  lesser x y = grind (arith, nat_tests)

  go : (xs ys : List ℕ) → sel_l (zip2 ltb xs ys) xs ys ≡ zip2 min xs ys
  go [] ys = refl
  go (x ∷ xs) [] = refl
  go (x ∷ xs) (y ∷ ys) = ap (λ m. m ∷ sel_l (zip2 ltb xs ys) xs ys) (lesser x y) ∙ ap (λ l. min x y ∷ l) (go xs ys)

-- and the greater
pub greatest-selected : (xs ys : List ℕ) → sel_l (map (top 63) (zip2 (λ a b. cond (ltb a b) (2 ^ 64 - 1) 0) xs ys)) ys xs ≡ zip2 max xs ys
greatest-selected xs ys = ap (λ ms. sel_l ms ys xs) (tops_compared w64 ltb xs ys) ∙ go xs ys where
  greater : (x y : ℕ) → cond (ltb x y) y x ≡ max x y
  greater x y = grind (arith, nat_tests)

  go : (xs ys : List ℕ) → sel_l (zip2 ltb xs ys) ys xs ≡ zip2 max xs ys
  go [] ys = refl
  go (x ∷ xs) [] = refl
  go (x ∷ xs) (y ∷ ys) = ap (λ m. m ∷ sel_l (zip2 ltb xs ys) ys xs) (greater x y) ∙ ap (λ l. max x y ∷ l) (go xs ys)

-- a mask that was read as numbers is that mask
pub mask-read : (l : List ℕ) (mask : List Bool) → l ≡ map number_of mask → length mask ≡ 8 → map (top 63) (zip2 (λ a b. cond (eqb a b) (2 ^ 64 - 1) 0) l (replicate 8 1)) ≡ mask
mask-read l mask e p =
    tops_compared w64 eqb l (replicate 8 1) ∙ ap (λ l. zip2 eqb l (replicate 8 1)) e ∙ go mask 8 p where
      go : (mask : List Bool) (n : ℕ) → length mask ≡ n → zip2 eqb (map number_of mask) (replicate n 1) ≡ mask
      go [] n q = refl
      go (m ∷ mask) zero q = absurd (omega arith)
      go (true ∷ mask) (suc n) q = ap (λ l. true ∷ l) (go mask n (omega arith))
      go (false ∷ mask) (suc n) q = ap (λ l. false ∷ l) (go mask n (omega arith))
