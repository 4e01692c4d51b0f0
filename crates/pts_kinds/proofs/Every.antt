-- Loops that test each element of a list.
use Rattle.std.proofs.Common.{◌≡◌, ℕ, ◌+◌, ◌<◌, ◌≤◌, Bool, true, false, List, [], ◌∷◌, length, get_or, take, drop, refl, sym, ap, ◌∙◌}
use Rattle.std.specs.Prelude.{◌&&◌, flat_map}
use Rattle.std.specs.List.{list_all}
use Rattle.std.proofs.lemmas.List.Folds.{list_all_more, list_all_at, list_all-append}
use Rattle.std.proofs.lemmas.List.{take_all, drop_more, drop_all}

and_true : (a : Bool) → (a && true) ≡ a
and_true true = refl
and_true false = refl

pub every_one : {A : Type 0} (p : A → Bool) (xs : List A) (at : ℕ) (x : A) (b : Bool) → list_all p (take at xs) ≡ true → at < length xs → x ≡ get_or xs at x
    → b ≡ p x → b ≡ true → list_all p (take (at + 1) xs) ≡ true
every_one p xs at x b before within is b_is right =
    list_all_more p xs at x within ∙ (λ i. before i && (ap p (sym is) ∙ sym b_is ∙ right) i)

pub every_stop : {A : Type 0} (p : A → Bool) (xs : List A) (at : ℕ) (x : A) (b : Bool) → at < length xs → x ≡ get_or xs at x
    → b ≡ p x → b ≡ false → false ≡ list_all p xs
every_stop p xs at x b within is b_is wrong = sym (list_all_at p xs at x within (ap p (sym is) ∙ sym b_is ∙ wrong))

pub every_all : {A : Type 0} (p : A → Bool) (xs : List A) (at : ℕ) → list_all p (take at xs) ≡ true → length xs ≤ at → true ≡ list_all p xs
every_all p xs at before all = sym before ∙ ap (list_all p) (take_all at xs all)

-- one alone
pub every_one_alone : {A : Type 0} (p : A → Bool) (x : A) → list_all p (x ∷ []) ≡ p x
every_one_alone p x = and_true (p x)

-- lists that are made of parts, each of which is tested
flat_split : {A B : Type 0} (p : B → Bool) (f : A → List B) (xs : List A) (at : ℕ) (x : A) → at < length xs → x ≡ get_or xs at x
    → list_all p (flat_map f (drop at xs)) ≡ (list_all p (f x) && list_all p (flat_map f (drop (at + 1) xs)))
flat_split p f xs at x within is =
    ap (λ ys. list_all p (flat_map f ys)) (drop_more xs at x within ∙ ap (λ y. y ∷ drop (at + 1) xs) (sym is))
    ∙ list_all-append p (f x) (flat_map f (drop (at + 1) xs))

pub flat_one : {A B : Type 0} (p : B → Bool) (f : A → List B) (xs : List A) (at : ℕ) (x : A) (b : Bool) → list_all p (flat_map f (drop at xs)) ≡ list_all p (flat_map f xs)
    → at < length xs → x ≡ get_or xs at x → b ≡ list_all p (f x) → b ≡ true → list_all p (flat_map f (drop (at + 1) xs)) ≡ list_all p (flat_map f xs)
flat_one p f xs at x b before within is b_is right =
    sym (flat_split p f xs at x within is ∙ ap (λ a. a && list_all p (flat_map f (drop (at + 1) xs))) (sym b_is ∙ right)) ∙ before

pub flat_stop : {A B : Type 0} (p : B → Bool) (f : A → List B) (xs : List A) (at : ℕ) (x : A) (b : Bool) → list_all p (flat_map f (drop at xs)) ≡ list_all p (flat_map f xs)
    → at < length xs → x ≡ get_or xs at x → b ≡ list_all p (f x) → b ≡ false → false ≡ list_all p (flat_map f xs)
flat_stop p f xs at x b before within is b_is wrong =
    sym (flat_split p f xs at x within is ∙ ap (λ a. a && list_all p (flat_map f (drop (at + 1) xs))) (sym b_is ∙ wrong)) ∙ before

pub flat_all : {A B : Type 0} (p : B → Bool) (f : A → List B) (xs : List A) (at : ℕ) → list_all p (flat_map f (drop at xs)) ≡ list_all p (flat_map f xs)
    → length xs ≤ at → true ≡ list_all p (flat_map f xs)
flat_all p f xs at before all = ap (λ ys. list_all p (flat_map f ys)) (sym (drop_all at xs all)) ∙ before

pub ruleset every_flat = (flat_one, flat_stop, flat_all)

pub ruleset every = (every_one, every_stop, every_all)
