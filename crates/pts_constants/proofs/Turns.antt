-- Loops that copy the elements of a list one after the other.
use Rattle.std.proofs.Common.{◌≡◌, ℕ, ◌+◌, ◌<◌, ◌≤◌, List, [], ◌∷◌, ◌++◌, map, length, get_or, refl, sym, ap, ◌∙◌}
use Rattle.std.specs.Prelude.{take}
use Rattle.std.proofs.lemmas.List.{map_more, take_all}

-- these are the copies of the elements before this place
pub record Copied {A : Type 0} (copy : A → A) (xs : List A) (at : ℕ) (done : List A) : Type 0 where
  pub copied : done ≡ map copy (take at xs)

pub copied_none : {A : Type 0} (copy : A → A) (xs : List A) → Copied copy xs 0 []
copied_none copy xs = record { copied = refl }

pub copied_one : {A : Type 0} (copy : A → A) (xs : List A) (at : ℕ) (now after : List A) (x y : A)
    → Copied copy xs at now → at < length xs → x ≡ get_or xs at x → y ≡ copy x → after ≡ now ++ y ∷ [] → Copied copy xs (at + 1) after
copied_one copy xs at now after x y w within is e f =
    record {
      copied =
          f
          ∙ (λ i. w.copied i ++ (e ∙ ap copy is) i ∷ [])
          ∙ sym (map_more copy xs at x within);
    }

pub copied_all : {A : Type 0} (copy : A → A) (xs : List A) (at : ℕ) (done : List A) → Copied copy xs at done → length xs ≤ at → done ≡ map copy xs
copied_all copy xs at done w all = w.copied ∙ ap (map copy) (take_all at xs all)

pub ruleset turns = (copied_none, copied_one, copied_all)
