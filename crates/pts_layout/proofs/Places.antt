-- Places in lists that are joined.
use Rattle.std.proofs.Common.{◌≡◌, ℕ, zero, suc, ◌+◌, ◌<◌, ◌⊎◌, inl, inr, ⊎_elim, Option, Some, List, [], ◌∷◌, ◌++◌, length, refl, sym, subst, arith}
use Rattle.std.specs.Prelude.{IsSomeAnd, slice_get}
use Rattle.std.proofs.lemmas.Option.{none-some}
use Rattle.pts_points.proofs.Each.{Each}

-- what stands in a list stands in it where more stand behind
pub in_longer : {A : Type 0} (xs ys : List A) (k : ℕ) (x : A) → slice_get xs k ≡ Some x → slice_get (xs ++ ys) k ≡ Some x
in_longer [] ys k x at = absurd (none-some x at)
in_longer (y ∷ xs) ys zero x at = at
in_longer (y ∷ xs) ys (suc k) x at = in_longer xs ys k x at

-- what stands in the second of two lists stands behind the first
pub in_second : {A : Type 0} (xs ys : List A) (k : ℕ) (x : A) → slice_get ys k ≡ Some x → slice_get (xs ++ ys) (length xs + k) ≡ Some x
in_second [] ys k x at = let e : k ≡ 0 + k = omega arith in subst (λ j. slice_get ys j ≡ Some x) e at
in_second (y ∷ xs) ys k x at = let e : suc (length xs + k) ≡ suc (length xs) + k = omega arith in subst (λ j. slice_get (y ∷ (xs ++ ys)) j ≡ Some x) e (in_second xs ys k x at)

-- a place of two lists that is one of the second
pub record InSecond {A : Type 0} (xs ys : List A) (k : ℕ) (x : A) : Type 0 where
  pub place : ℕ
  pub behind : k ≡ length xs + place
  pub there : slice_get ys place ≡ Some x

-- what stands in two lists stands in the first or in the second
pub in_either : {A : Type 0} (xs ys : List A) (k : ℕ) (x : A) → slice_get (xs ++ ys) k ≡ Some x → (slice_get xs k ≡ Some x) ⊎ InSecond xs ys k x
in_either [] ys k x at = inr (record { place = k; behind = omega arith; there = at })
in_either (y ∷ xs) ys zero x at = inl at
in_either (y ∷ xs) ys (suc k) x at =
    ⊎_elim (λ (h : slice_get xs k ≡ Some x). inl h)
    (λ (h : InSecond xs ys k x). inr (record { place = h.place; behind = (let e = h.behind in omega (arith, e)); there = h.there })) (in_either xs ys k x at)

-- there is an element at each place of a list
pub record Stands {A : Type 0} (xs : List A) (k : ℕ) : Type 0 where
  pub element : A
  pub there : slice_get xs k ≡ Some element

pub within : {A : Type 0} (xs : List A) (k : ℕ) → k < length xs → Stands xs k
within [] k less = absurd (omega (arith, less))
within (x ∷ xs) zero less = record { element = x; there = refl }
within (x ∷ xs) (suc k) less = let rest = within xs k (omega (arith, less)) in record { element = rest.element; there = rest.there }

-- a part of a list, from a place on
pub record IsPart {A : Type 0} (whole : List A) (n : ℕ) (part : List A) : Type 0 where
  pub at : (k : ℕ) (x : A) → slice_get part k ≡ Some x → slice_get whole (n + k) ≡ Some x

pub front_part : {A : Type 0} (whole : List A) (n : ℕ) (xs ys : List A) → IsPart whole n (xs ++ ys) → IsPart whole n xs
front_part whole n xs ys h = record { at = λ k x is. h.at k x (in_longer xs ys k x is) }

pub back_part : {A : Type 0} (whole : List A) (n m : ℕ) (xs ys : List A) → m ≡ n + length xs → IsPart whole n (xs ++ ys) → IsPart whole m ys
back_part whole n m xs ys e h = record { at = λ k x is. subst (λ j. slice_get whole j ≡ Some x) (omega (arith, e)) (h.at (length xs + k) x (in_second xs ys k x is)) }

pub second_part : {A : Type 0} (xs ys : List A) (n : ℕ) → length xs ≡ n → IsPart (xs ++ ys) n ys
second_part xs ys n e = record { at = λ k x is. subst (λ j. slice_get (xs ++ ys) j ≡ Some x) (omega (arith, e)) (in_second xs ys k x is) }

-- a fact of what stands at a place
pub found : {A : Type 0} (P : A → Type 0) (o : Option A) (x : A) → o ≡ Some x → P x → IsSomeAnd o P
found P o x is h = subst (λ z. IsSomeAnd z P) (sym is) h

pub still_found : {A : Type 0} (P : A → Type 0) (xs ys : List A) (k : ℕ) → IsSomeAnd (slice_get xs k) P → IsSomeAnd (slice_get (xs ++ ys) k) P
still_found P [] ys k h = absurd h
still_found P (x ∷ xs) ys zero h = h
still_found P (x ∷ xs) ys (suc k) h = still_found P xs ys k h

-- what holds at each place
pub each_by_place : {A : Type 0} (P : A → Type 0) (xs : List A) → ((k : ℕ) (x : A) → slice_get xs k ≡ Some x → P x) → Each P xs
each_by_place P [] f = tt
each_by_place P (x ∷ xs) f = (f 0 x refl, each_by_place P xs (λ k y at. f (suc k) y at))
