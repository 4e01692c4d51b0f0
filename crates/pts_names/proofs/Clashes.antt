-- Entering local names one after the other finds each clash.
use Rattle.std.proofs.Common.{◌≡◌, Bool, true, false, List, [], ◌∷◌, refl, sym, ap, ◌∙◌}
use Rattle.std.specs.Prelude.{◌||◌}
use Rattle.std.specs.Str.{bytes_eq}
use Rattle.std.proofs.lemmas.Slice.Eq.{bytes_eq-Decides}
use Rattle.pts_rules.specs.Known.{Scope}
use Rattle.pts_rules.specs.Names.{has_repeat, meet, names_in, clash}
use Rattle.pts_rules.specs.Parts.{Name, is_among}
use Rattle.pts_names.specs.Entered.{local, repeats}

alike : (a b : Bool) → (a ≡ true → b ≡ true) → (b ≡ true → a ≡ true) → a ≡ b
alike true b f g = sym (f refl)
alike false true f g = g refl
alike false false f g = refl

-- equality of texts does not ask which one comes first
turned_eq : (xs ys : Name) → bytes_eq xs ys ≡ bytes_eq ys xs
turned_eq xs ys =
    alike (bytes_eq xs ys) (bytes_eq ys xs)
    (λ e. (bytes_eq-Decides ys xs).1 (sym ((bytes_eq-Decides xs ys).0 e)))
    (λ e. (bytes_eq-Decides xs ys).1 (sym ((bytes_eq-Decides ys xs).0 e)))

swap : (a b c d : Bool) → ((a || b) || (c || d)) ≡ ((a || c) || (b || d))
swap true b c d = refl
swap false true true d = refl
swap false true false d = refl
swap false false c d = refl

-- names meet one more name where they meet the others or it is among them
meets_more : (x : Name) (others xs : List Name) → meet xs (x ∷ others) ≡ (is_among x xs || meet xs others)
meets_more x others [] = refl
meets_more x others (y ∷ ys) =
    (λ i. (turned_eq y x i || is_among y others) || meets_more x others ys i)
    ∙ swap (bytes_eq x y) (is_among y others) (is_among x ys) (meet ys others)

order : (a b c d : Bool) → (a || (b || (c || d))) ≡ ((c || b) || (a || d))
order true true true d = refl
order true true false d = refl
order true false true d = refl
order true false false d = refl
order false true true d = refl
order false true false d = refl
order false false true d = refl
order false false false d = refl

pub repeats_clash : (scope : Scope) (names : List Name) → repeats scope names ≡ clash (names_in scope) names
unfolding repeats
repeats_clash scope [] = refl
repeats_clash scope (x ∷ xs) =
    ap (λ b. is_among x (names_in scope) || b) (repeats_clash (local x ∷ scope) xs ∙ ap (λ b. has_repeat xs || b) (meets_more x (names_in scope) xs))
    ∙ order (is_among x (names_in scope)) (has_repeat xs) (is_among x xs) (meet xs (names_in scope))
