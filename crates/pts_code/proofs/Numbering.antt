-- Lists that grow at their end, each element from those before it.
use Rattle.std.proofs.Common.{◌≡◌, ℕ, zero, suc, ◌+◌, ◌<◌, Some, List, [], ◌∷◌, ◌++◌, length, get_or, take, refl, ap, ◌∙◌, arith}
use Rattle.std.specs.Prelude.{fold, slice_get}
use Rattle.std.proofs.lemmas.List.{length_push}
use Rattle.std.proofs.lemmas.Option.{slice_get_within}

pub get_push : {B : Type 0} (xs : List B) (y : B) → slice_get (xs ++ y ∷ []) (length xs) ≡ Some y
get_push [] y = refl
get_push (x ∷ xs) y = get_push xs y

pub get_kept : {B : Type 0} (xs ys : List B) (n : ℕ) (y : B) → slice_get xs n ≡ Some y → slice_get (xs ++ ys) n ≡ Some y
get_kept [] ys n y is = absurd (omega (arith, slice_get_within [] n y is))
get_kept (x ∷ xs) ys zero y is = is
get_kept (x ∷ xs) ys (suc n) y is = get_kept xs ys n y is

module _ {A B : Type 0} (made : List B → A → B) where
  -- one element more
  abbrev pub grown : List B → A → List B
  grown ys x = ys ++ made ys x ∷ []

  pub grown_kept : (xs : List A) (ys : List B) (n : ℕ) (y : B) → slice_get ys n ≡ Some y → slice_get (fold grown ys xs) n ≡ Some y
  grown_kept [] ys n y is = is
  grown_kept (x ∷ xs) ys n y is = grown_kept xs (grown ys x) n y (get_kept ys (made ys x ∷ []) n y is)

  pub grown_length : (xs : List A) (ys : List B) → length (fold grown ys xs) ≡ length ys + length xs
  grown_length [] ys = omega arith
  grown_length (x ∷ xs) ys = omega (arith, grown_length xs (grown ys x), length_push ys (made ys x))

  pub grown_at : (xs : List A) (ys : List B) (k n : ℕ) (d : A) → k < length xs → n ≡ length ys + k
      → slice_get (fold grown ys xs) n ≡ Some (made (fold grown ys (take k xs)) (get_or xs k d))
  grown_at [] ys k n d within at = absurd (omega (arith, within))
  grown_at (x ∷ xs) ys zero n d within at =
      ap (λ m. slice_get (fold grown (grown ys x) xs) m) (omega (arith, at))
      ∙ grown_kept xs (grown ys x) (length ys) (made ys x) (get_push ys (made ys x))
  grown_at (x ∷ xs) ys (suc k) n d within at = grown_at xs (grown ys x) k n d (omega (arith, within)) (omega (arith, at, length_push ys (made ys x)))
