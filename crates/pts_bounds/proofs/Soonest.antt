-- The first position of many reaches.
use Rattle.std.proofs.Common.{◌≡◌, ℕ, ◌+◌, ◌<◌, Bool, true, false, Option, Some, None, List, [], ◌∷◌, ◌++◌, length, get_or, take, inl, inr, refl, ap, sym, subst, ◌∙◌, arith}
use Rattle.std.specs.Prelude.{◌||◌, ◌⊎◌, IsTrue, min, flat_map}
use Rattle.std.specs.List.{list_any}
use Rattle.std.proofs.lemmas.Bool.{or_cases, false≢true}
use Rattle.std.proofs.lemmas.List.{take_more}
use Rattle.pts_tree.specs.declared.script.Item.{Item}
use Rattle.pts_rules.specs.Parts.{statements}
use Rattle.pts_rules.specs.Known.{Scope}
use Rattle.pts_rules.specs.Indices.{Reach, leaves, reaches, is_out_at}
use Rattle.pts_bounds.specs.Firsts.{IsFirst, first_leaving, sooner, soonest}
use Rattle.pts_bounds.specs.Walks.{first_in}
use Rattle.pts_bounds.proofs.Leaving.{reach-leaves}

or_left : (x y : Bool) → x ≡ true → (x || y) ≡ true
or_left true y h = refl
or_left false y h = absurd (false≢true h)

or_right : (x y : Bool) → y ≡ true → (x || y) ≡ true
or_right true y h = refl
or_right false y h = h

sooner_first : (P Q : ℕ → Bool) (x y : Option ℕ) → IsFirst P x → IsFirst Q y → IsFirst (λ p. P p || Q p) (sooner x y)
sooner_first P Q None None first second = λ p h. elim (or_cases (P p) (Q p) h) [ inl e ↦ first p e | inr e ↦ second p e ]
sooner_first P Q None (Some y) first second =
    (or_right (P y) (Q y) second.0, λ q h. elim (or_cases (P q) (Q q) h) [ inl e ↦ absurd (first q e) | inr e ↦ second.1 q e ])
sooner_first P Q (Some x) None first second =
    (or_left (P x) (Q x) first.0, λ q h. elim (or_cases (P q) (Q q) h) [ inl e ↦ first.1 q e | inr e ↦ absurd (second q e) ])
sooner_first P Q (Some x) (Some y) first second = (at (min x y) cases, λ q h. elim (or_cases (P q) (Q q) h) [ inl e ↦ let l = first.1 q e in omega (arith, l) | inr e ↦ let l = second.1 q e in omega (arith, l) ]) where
  cases : (x ≡ min x y) ⊎ (y ≡ min x y)
  cases = grind arith

  at : (m : ℕ) → (x ≡ m) ⊎ (y ≡ m) → IsTrue (P m || Q m)
  at m (inl e) = or_left (P m) (Q m) (ap P (sym e) ∙ first.0)
  at m (inr e) = or_right (P m) (Q m) (ap Q (sym e) ∙ second.0)

soonest_first : (xs : List Reach) → IsFirst (λ p. list_any (leaves p) xs) (soonest first_leaving xs)
soonest_first [] = λ p h. false≢true h
soonest_first (x ∷ xs) = sooner_first (λ p. leaves p x) (λ p. list_any (leaves p) xs) (first_leaving x) (soonest first_leaving xs) (reach-leaves x) (soonest_first xs)

-- ---- lists

pub sooner_moves : (x y z : Option ℕ) → sooner x (sooner y z) ≡ sooner (sooner x y) z
sooner_moves None y z = refl
sooner_moves (Some x) None z = refl
sooner_moves (Some x) (Some y) None = refl
sooner_moves (Some x) (Some y) (Some z) = ap Some (omega arith)

pub sooner_none : (x : Option ℕ) → sooner x None ≡ x
sooner_none None = refl
sooner_none (Some x) = refl

pub soonest_append : {A : Type 0} (f : A → Option ℕ) (xs ys : List A) → soonest f (xs ++ ys) ≡ sooner (soonest f xs) (soonest f ys)
soonest_append f [] ys = refl
soonest_append f (x ∷ xs) ys = ap (λ z. sooner (f x) z) (soonest_append f xs ys) ∙ sooner_moves (f x) (soonest f xs) (soonest f ys)

-- what the elements of a list give, joined
pub soonest_each : {A B : Type 0} (g : B → Option ℕ) (f : A → List B) (xs : List A) → soonest g (flat_map f xs) ≡ soonest (λ x. soonest g (f x)) xs
soonest_each g f [] = refl
soonest_each g f (x ∷ xs) = soonest_append g (f x) (flat_map f xs) ∙ ap (λ z. sooner (soonest g (f x)) z) (soonest_each g f xs)

pub soonest_one : {A : Type 0} (f : A → Option ℕ) (x : A) → soonest f (x ∷ []) ≡ f x
soonest_one f x = sooner_none (f x)

pub soonest_more : {A : Type 0} (f : A → Option ℕ) (xs : List A) (i : ℕ) (d : A) → i < length xs → soonest f (take (i + 1) xs) ≡ sooner (soonest f (take i xs)) (f (get_or xs i d))
soonest_more f xs i d h = ap (soonest f) (take_more xs i d h) ∙ soonest_append f (take i xs) (get_or xs i d ∷ []) ∙ ap (λ z. sooner (soonest f (take i xs)) z) (soonest_one f (get_or xs i d))

-- the earliest so far, and one element more
pub next_soonest : {A : Type 0} (f : A → Option ℕ) (xs : List A) (i : ℕ) (x : A) (so_far y next : Option ℕ) → i < length xs → x ≡ get_or xs i x → so_far ≡ soonest f (take i xs) → y ≡ f x → next ≡ sooner so_far y → next ≡ soonest f (take (i + 1) xs)
next_soonest f xs i x so_far y next h is e1 e2 e3 =
    e3 ∙ (λ j. sooner (e1 j) (e2 j)) ∙ ap (λ z. sooner (soonest f (take i xs)) (f z)) is ∙ sym (soonest_more f xs i x h)

-- the first position that an item's statements give is that at which it is first out of range
pub out_first : (scope : Scope) (x : Item) (first : Option ℕ) → first ≡ soonest (first_in scope) (statements x) → IsFirst (is_out_at scope x) first
out_first scope x first e =
    subst (λ z. IsFirst (is_out_at scope x) z) (soonest_each first_leaving (reaches scope) (statements x) ∙ sym e)
    (soonest_first (flat_map (reaches scope) (statements x)))
