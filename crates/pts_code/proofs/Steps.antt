-- Lists of outcomes, one element on.
use Rattle.std.proofs.Common.{◌≡◌, ℕ, ◌+◌, ◌<◌, List, ◌∷◌, length, get_or, drop, map, sym, ap, ◌∙◌}
use Rattle.std.proofs.lemmas.List.{drop_more}

-- what is left of a list begins with what the next element gives
pub next_of : {A B C : Type 0} (f : List B → C) (h : A → B) (xs : List A) (at : ℕ) (x : A) (y : B)
    → at < length xs → x ≡ get_or xs at x → y ≡ h x → f (map h (drop at xs)) ≡ f (y ∷ map h (drop (at + 1) xs))
next_of f h xs at x y within is gives =
    ap (λ zs. f (map h zs)) (drop_more xs at x within)
    ∙ ap (λ z. f (h z ∷ map h (drop (at + 1) xs))) (sym is)
    ∙ ap (λ z. f (z ∷ map h (drop (at + 1) xs))) (sym gives)
