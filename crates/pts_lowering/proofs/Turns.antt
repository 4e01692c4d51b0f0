-- Loops that make one thing of each element.
use Rattle.std.proofs.Common.{◌≡◌, ℕ, ◌+◌, ◌<◌, ◌≤◌, List, [], ◌∷◌, ◌++◌, map, length, get_or, refl, sym, ap, ◌∙◌}
use Rattle.std.specs.Prelude.{take}
use Rattle.std.proofs.lemmas.List.{map_more, take_all}

-- these were made of the elements before this place
pub record Made {A B : Type 0} (make : A → B) (xs : List A) (at : ℕ) (done : List B) : Type 0 where
  pub made : done ≡ map make (take at xs)

pub made_none : {A B : Type 0} (make : A → B) (xs : List A) → Made make xs 0 []
made_none make xs = record { made = refl }

pub made_one : {A B : Type 0} (make : A → B) (xs : List A) (at : ℕ) (now after : List B) (x : A) (y : B)
    → Made make xs at now → at < length xs → x ≡ get_or xs at x → y ≡ make x → after ≡ now ++ y ∷ [] → Made make xs (at + 1) after
made_one make xs at now after x y w within is e f =
    record {
      made =
          f
          ∙ (λ i. w.made i ++ (e ∙ ap make is) i ∷ [])
          ∙ sym (map_more make xs at x within);
    }

pub made_all : {A B : Type 0} (make : A → B) (xs : List A) (at : ℕ) (done : List B) → Made make xs at done → length xs ≤ at → done ≡ map make xs
made_all make xs at done w all = w.made ∙ ap (map make) (take_all at xs all)

pub ruleset turns = (made_none, made_one, made_all)
