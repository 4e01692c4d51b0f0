-- Loops that append what each element of a list gives.
use Rattle.std.proofs.Common.{◌≡◌, ℕ, ◌+◌, ◌<◌, ◌≤◌, List, [], ◌∷◌, ◌++◌, map, length, get_or, refl, sym, ap, ◌∙◌}
use Rattle.std.specs.Prelude.{take, flat_map}
use Rattle.std.proofs.lemmas.List.{append-nil, flat_map_more, map-append, take_all, take_more}
use Rattle.std.proofs.lemmas.List.Concat.{flat_map-append}

-- what the elements before this place give stands behind what was there
pub record Added {A B : Type 0} (gives : A → List B) (xs : List A) (at : ℕ) (before now : List B) : Type 0 where
  pub added : now ≡ before ++ flat_map gives (take at xs)

pub added_none : {A B : Type 0} (gives : A → List B) (xs : List A) (before : List B) → Added gives xs 0 before before
added_none gives xs before = record { added = sym (append-nil before) }

pub added_one : {A B : Type 0} (gives : A → List B) (xs : List A) (at : ℕ) (before now after : List B) (x : A)
    → Added gives xs at before now → at < length xs → x ≡ get_or xs at x → after ≡ now ++ gives x → Added gives xs (at + 1) before after
added_one gives xs at before now after x w within is e =
    record {
      added =
          e
          ∙ (λ i. w.added i ++ gives (is i))
          ∙ flat_map_more gives before (take at xs) (get_or xs at x)
          ∙ ap (λ ys. before ++ flat_map gives ys) (sym (take_more xs at x within));
    }

pub added_all : {A B : Type 0} (gives : A → List B) (xs : List A) (at : ℕ) (before after : List B)
    → Added gives xs at before after → length xs ≤ at → after ≡ before ++ flat_map gives xs
added_all gives xs at before after w all = w.added ∙ ap (λ ys. before ++ flat_map gives ys) (take_all at xs all)

pub ruleset additions = (added_none, added_one, added_all)

-- what gives nothing changes nothing
pub nothing_added : {B : Type 0} (before given : List B) → given ≡ [] → before ≡ before ++ given
nothing_added before given is = sym (append-nil before) ∙ ap (λ ys. before ++ ys) (sym is)

-- lists that are joined, and then each of their elements taken
pub flat_map_flat : {A B C : Type 0} (gives : B → List C) (f : A → List B) (xs : List A) → flat_map gives (flat_map f xs) ≡ flat_map (λ x. flat_map gives (f x)) xs
flat_map_flat gives f [] = refl
flat_map_flat gives f (x ∷ xs) = flat_map-append gives (f x) (flat_map f xs) ∙ ap (λ ys. flat_map gives (f x) ++ ys) (flat_map_flat gives f xs)

-- lists that are joined, and then each of their elements changed
pub map_flat : {A B C : Type 0} (change : B → C) (f : A → List B) (xs : List A) → map change (flat_map f xs) ≡ flat_map (λ x. map change (f x)) xs
map_flat change f [] = refl
map_flat change f (x ∷ xs) = map-append change (f x) (flat_map f xs) ∙ ap (λ ys. map change (f x) ++ ys) (map_flat change f xs)
