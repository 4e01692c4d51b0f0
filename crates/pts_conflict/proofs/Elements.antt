-- Elements of lists, and of ranges of lists.
use Rattle.std.proofs.Common.{◌≡◌, ℕ, zero, suc, ◌+◌, ◌<◌, ◌⊎◌, inl, inr, Some, List, [], ◌∷◌, drop, get_or, slice_get, refl, sym, ap, ◌∙◌, subst, arith}
use Rattle.std.specs.List.{Contains}
use Rattle.std.proofs.lemmas.List.Elements.{Contains-append_cases, Contains-append_right}
use Rattle.std.proofs.lemmas.Option.{slice_get_within}
use Rattle.pts_conflict.specs.Search.{OneOf}

module _ {A : Type 0} where
  pub here : (x : A) (xs : List A) → Contains (x ∷ xs) x
  here x xs = (0, omega arith, refl)

  pub there : (x : A) (xs : List A) (y : A) → Contains xs y → Contains (x ∷ xs) y
  there x xs y h = Contains-append_right (x ∷ []) xs y h

  alone : (x y : A) → Contains (x ∷ []) y → x ≡ y
  alone x y h = by_place h.0 h.1 h.2
    where
      by_place : (k : ℕ) → k < 1 → get_or (x ∷ []) k y ≡ y → x ≡ y
      by_place zero less e = e
      by_place (suc k) less e = absurd (omega (arith, less))

  pub first_or : (x : A) (xs : List A) (y : A) → Contains (x ∷ xs) y → (x ≡ y) ⊎ Contains xs y
  first_or x xs y h = elim (Contains-append_cases (x ∷ []) xs y h) [ inl k ↦ inl (alone x y k) | inr k ↦ inr k ]

  pub nothing : (y : A) → Contains [] y → ⊥
  nothing y h = let less = h.1 in omega (arith, less)

  -- an element by its index, and back
  pub at_index : (xs : List A) (k : ℕ) (x : A) → slice_get xs k ≡ Some x → Contains xs x
  at_index [] k x e = absurd (let less : k < 0 = slice_get_within [] k x e in omega (arith, less))
  at_index (y ∷ xs) zero x e = let same : y ≡ x = cc in subst (Contains (y ∷ xs)) same (here y xs)
  at_index (y ∷ xs) (suc k) x e = there y xs x (at_index xs k x e)

  pub index_of : (xs : List A) (x : A) → Contains xs x → (k : ℕ) × (slice_get xs k ≡ Some x)
  index_of [] x h = absurd (nothing x h)
  index_of (y ∷ xs) x h = elim (first_or y xs x h) [ inl e ↦ (0, ap Some e) | inr k ↦ (let i = index_of xs x k in (suc i.0, i.1)) ]

  -- ---- ranges

  pub dropped_at : (n : ℕ) (xs : List A) (k : ℕ) → slice_get (drop n xs) k ≡ slice_get xs (n + k)
  dropped_at zero xs k = let e : k ≡ 0 + k = omega arith in ap (slice_get xs) e
  dropped_at (suc n) [] k = none k
    where
      none : (k : ℕ) → slice_get {X = A} [] k ≡ slice_get [] (suc n + k)
      none k = refl
  dropped_at (suc n) (x ∷ xs) k = let e : suc (n + k) ≡ suc n + k = omega arith in dropped_at n xs k ∙ ap (slice_get (x ∷ xs)) e

module _ {A B : Type 0} (P : B → A → Type 0) where
  -- what holds at one of these elements, by the element
  pub of_element : (xs : List B) (x : A) (y : B) → Contains xs y → P y x → OneOf P xs x
  of_element [] x y h p = absurd (nothing y h)
  of_element (z ∷ xs) x y h p = elim (first_or z xs y h) [ inl e ↦ inl (subst (λ w. P w x) (sym e) p) | inr k ↦ inr (of_element xs x y k p) ]

  pub element_of : (xs : List B) (x : A) → OneOf P xs x → (y : B) × Contains xs y × P y x
  element_of [] x h = absurd h
  element_of (z ∷ xs) x (inl p) = (z, here z xs, p)
  element_of (z ∷ xs) x (inr h) = let r = element_of xs x h in (r.0, there z xs r.0 r.1, r.2)
