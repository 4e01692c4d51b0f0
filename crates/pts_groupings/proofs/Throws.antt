-- Throws among the items of folds.
use Rattle.std.proofs.Common.{◌≡◌, ℕ, zero, suc, ◌<◌, Option, Some, None, List, [], ◌∷◌, length, map, refl, ap, ◌∙◌, ⊎_elim, arith}
use Rattle.std.specs.List.{flat_map, fold, Contains, slice_get, slice_index_or}
use Rattle.std.specs.Option.{option_map}
use Rattle.std.proofs.lemmas.List.Elements.{Contains-append_cases, Contains-append_right}
use Rattle.pts_groupings.specs.Brackets.{combined}
use Rattle.pts_groupings.specs.Sums.{folded, all_given}

-- items: all of them values, or a throw among them
pub data Items {V : Type 0} (items : List (Option V)) : Type 0 where
  Values : (vs : List V) → items ≡ map Some vs → all_given items ≡ Some vs → Items items
  Throws : Contains items None → all_given items ≡ None → Items items

more_items : {V : Type 0} (v : V) (items : List (Option V)) → Items items → Items (Some v ∷ items)
more_items v items (Values vs e e') = Values (v ∷ vs) (ap (λ l. Some v ∷ l) e) (ap (option_map (λ l. v ∷ l)) e')
more_items v items (Throws h e) = Throws (Contains-append_right (Some v ∷ []) items None h) (ap (option_map (λ l. v ∷ l)) e)

pub items_of : {V : Type 0} (items : List (Option V)) → Items items
items_of [] = Values [] refl refl
items_of (None ∷ items) = Throws (0, (omega arith), refl) refl
items_of (Some v ∷ items) = more_items v items (items_of items)

-- ---- folds

pub fold_none : {V : Type 0} (op : V → V → Option V) (xs : List (Option V)) → fold (combined op) None xs ≡ None
fold_none op [] = refl
fold_none op (x ∷ xs) = fold_none op xs

combined_none : {V : Type 0} (op : V → V → Option V) (x : Option V) → combined op x None ≡ None
combined_none op (Some v) = refl
combined_none op None = refl

-- a fold that goes on from a throw, wherever it came in
throws_from : {V : Type 0} (op : V → V → Option V) (s x : Option V) (xs : List (Option V)) → x ≡ None → fold (combined op) (combined op s x) xs ≡ None
throws_from op s x xs e = ap (λ y. fold (combined op) (combined op s y) xs) e ∙ ap (λ y. fold (combined op) y xs) (combined_none op s) ∙ fold_none op xs

fold_throws_at : {V : Type 0} (op : V → V → Option V) (xs : List (Option V)) (k : ℕ) (s : Option V)
    → k < length xs → slice_index_or xs k None ≡ None → fold (combined op) s xs ≡ None
fold_throws_at op [] k s l e = absurd (omega (arith, l))
fold_throws_at op (x ∷ xs) zero s l e = throws_from op s x xs e
fold_throws_at op (x ∷ xs) (suc k) s l e = fold_throws_at op xs k (combined op s x) (omega (arith, l)) e

pub fold_throws : {V : Type 0} (op : V → V → Option V) (xs : List (Option V)) (s : Option V) → Contains xs None → fold (combined op) s xs ≡ None
fold_throws op xs s h = fold_throws_at op xs h.0 s h.1 h.2

folded_throws_at : {V : Type 0} (op : V → V → Option V) (xs : List (Option V)) (k : ℕ) → k < length xs → slice_index_or xs k None ≡ None → folded op xs ≡ None
folded_throws_at op [] k l e = refl
folded_throws_at op (x ∷ xs) zero l e = ap (λ y. fold (combined op) y xs) e ∙ fold_none op xs
folded_throws_at op (x ∷ xs) (suc k) l e = fold_throws_at op xs k x (omega (arith, l)) e

pub folded_throws : {V : Type 0} (op : V → V → Option V) (xs : List (Option V)) → Contains xs None → folded op xs ≡ None
folded_throws op xs h = folded_throws_at op xs h.0 h.1 h.2

-- where a part has a throw, the fold of that part is one
pub part_throws : {A V : Type 0} (op : V → V → Option V) (f : A → List (Option V)) (parts : List A)
    → Contains (flat_map f parts) None → Contains (map (λ part. folded op (f part)) parts) None
part_throws op f [] h = absurd (let l = h.1 in omega (arith, l))
part_throws op f (part ∷ parts) h =
    ⊎_elim (λ here. (0, (omega arith), folded_throws op (f part) here))
    (λ later. Contains-append_right (folded op (f part) ∷ []) (map (λ x. folded op (f x)) parts) None (part_throws op f parts later))
    (Contains-append_cases (f part) (flat_map f parts) None h)

given_none_at : {V : Type 0} (xs : List (Option V)) (k : ℕ) → k < length xs → slice_index_or xs k None ≡ None → all_given xs ≡ None
given_none_at [] k l e = absurd (omega (arith, l))
given_none_at (None ∷ xs) k l e = refl
given_none_at (Some v ∷ xs) zero l e = absurd (cc)
given_none_at (Some v ∷ xs) (suc k) l e = ap (option_map (λ vs. v ∷ vs)) (given_none_at xs k (omega (arith, l)) e)

pub given_none : {V : Type 0} (xs : List (Option V)) → Contains xs None → all_given xs ≡ None
given_none xs h = given_none_at xs h.0 h.1 h.2

-- the values of items, by place
pub value_at : {V : Type 0} (vs : List V) (k : ℕ) → slice_get vs k ≡ slice_index_or (map Some vs) k None
value_at [] k = refl
value_at (v ∷ vs) zero = refl
value_at (v ∷ vs) (suc k) = value_at vs k
