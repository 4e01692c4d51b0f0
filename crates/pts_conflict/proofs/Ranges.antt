-- Elements of a range of a list.
use Rattle.std.proofs.Common.{◌≡◌, ℕ, zero, suc, ◌+◌, ◌-◌, ◌<◌, ◌≤◌, Some, List, [], ◌∷◌, length, take, drop, get_or, slice_get, sym, ap, ◌∙◌, subst, arith}
use Rattle.std.specs.Prelude.{All, slice_range}
use Rattle.std.specs.List.{Contains}
use Rattle.std.proofs.lemmas.List.Elements.{All-take, All-drop}
use Rattle.std.proofs.lemmas.List.{length-drop, take_all}
use Rattle.std.proofs.lemmas.Option.{slice_get-get_or, slice_get_within}
use Rattle.pts_conflict.proofs.Elements.{at_index, dropped_at, index_of}

module _ {A : Type 0} where
  taken : (n : ℕ) (xs : List A) (k : ℕ) (y : A) → slice_get (take n xs) k ≡ Some y → (k < n) × (slice_get xs k ≡ Some y)
  taken zero xs k y e = absurd (let less : k < 0 = slice_get_within [] k y e in omega (arith, less))
  taken (suc n) [] k y e = absurd (let less : k < 0 = slice_get_within [] k y e in omega (arith, less))
  taken (suc n) (x ∷ xs) zero y e = ((omega arith), e)
  taken (suc n) (x ∷ xs) (suc k) y e = let r = taken n xs k y e in let less = r.0 in ((omega (arith, less)), r.1)

  kept : (n : ℕ) (xs : List A) (k : ℕ) (y : A) → k < n → slice_get xs k ≡ Some y → slice_get (take n xs) k ≡ Some y
  kept zero xs k y less e = absurd (omega (arith, less))
  kept (suc n) [] k y less e = e
  kept (suc n) (x ∷ xs) zero y less e = e
  kept (suc n) (x ∷ xs) (suc k) y less e = kept n xs k y (omega (arith, less)) e

  -- an element of a range by its index in the list
  pub from_range : (xs : List A) (a b : ℕ) (y : A) → Contains (slice_range xs a b) y → (j : ℕ) × (a ≤ j) × (j < b) × (slice_get xs j ≡ Some y)
  from_range xs a b y h =
      let i = index_of (slice_range xs a b) y h in
      let t = taken (b - a) (drop a xs) i.0 y i.1 in
      let less = t.0 in
      (a + i.0, omega arith, omega (arith, less), sym (dropped_at a xs i.0) ∙ t.1)

  pub in_range_of : (xs : List A) (a b j : ℕ) (y : A) → slice_get xs j ≡ Some y → a ≤ j → j < b → Contains (slice_range xs a b) y
  in_range_of xs a b j y e from to =
      let at : a + (j - a) ≡ j = omega (arith, from) in
      at_index (slice_range xs a b) (j - a) y (kept (b - a) (drop a xs) (j - a) y (omega (arith, from, to)) (dropped_at a xs (j - a) ∙ ap (slice_get xs) at ∙ e))

  pub range_all : (P : A → Type 0) (xs : List A) (a b : ℕ) → All P xs → All P (slice_range xs a b)
  range_all P xs a b h = All-take P (b - a) (drop a xs) (All-drop P a xs h)

  got : (xs : List A) (k : ℕ) (y d : A) → slice_get xs k ≡ Some y → get_or xs k d ≡ y
  got [] k y d e = absurd (let less : k < 0 = slice_get_within [] k y e in omega (arith, less))
  got (x ∷ xs) zero y d e = cc
  got (x ∷ xs) (suc k) y d e = got xs k y d e

  pub all_at : (P : A → Type 0) (xs : List A) (k : ℕ) (y : A) → slice_get xs k ≡ Some y → All P xs → P y
  all_at P xs k y e h = subst P (got xs k y y e) (h k y (slice_get_within xs k y e))

  -- an element that an index gives
  pub slice_is : (xs ys : List A) (i : ℕ) (x d : A) → ys ≡ xs → i < length xs → x ≡ get_or ys i d → slice_get xs i ≡ Some x
  slice_is xs ys i x d e within is = slice_get-get_or xs i d within ∙ ap Some (sym (is ∙ ap (λ zs. get_or zs i d) e))

  -- a part from an index on
  pub rest_from : (xs : List A) (n : ℕ) → take (length xs - n) (drop n xs) ≡ drop n xs
  rest_from xs n = let size = length-drop n xs in take_all (length xs - n) (drop n xs) (omega (arith, size))

  pub rest_part : (ys xs : List A) (m n : ℕ) → ys ≡ xs → m ≡ n → take (length ys - m) (drop m ys) ≡ drop n xs
  rest_part ys xs m n e f = rest_from ys m ∙ (λ i. drop (f i) (e i))
