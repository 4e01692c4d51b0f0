-- The name of an array, found by going through the items.
use Rattle.std.proofs.Common.{◌≡◌, ◌≢◌, ℕ, zero, suc, ◌+◌, ◌-◌, ◌<◌, ◌≤◌, Some, None, List, [], ◌∷◌, ◌++◌, length, drop, get_or, slice_get, refl, sym, ap, ◌∙◌, subst, arith}
use Rattle.std.specs.Prelude.{flat_map, unwrap_or}
use Rattle.std.proofs.lemmas.List.{drop_all, drop_more}
use Rattle.pts_tree.specs.declared.script.ArrayDecl.{ArrayDecl}
use Rattle.pts_tree.specs.declared.script.Item.{Item}
use Rattle.pts_tree.specs.declared.script.Item.TheVariants as items
use Rattle.pts_run.specs.Acceptance.{names_in}

-- array n of these items
abbrev pub named : List Item → ℕ → List ℕ
named xs n = unwrap_or (slice_get (flat_map names_in xs) n) []

-- of the items from i on it is the array of this number
pub record Found_from (xs : List Item) (n i left : ℕ) : Type 0 where
  pub same : named (drop i xs) left ≡ named xs n

pub from_start : (xs : List Item) (n : ℕ) → Found_from xs n 0 n
from_start xs n = record { same = refl }

opened : (xs : List Item) (i : ℕ) (x d : Item) → i < length xs → x ≡ get_or xs i d → drop i xs ≡ x ∷ drop (i + 1) xs
opened xs i x d within is = drop_more xs i d within ∙ ap (λ y. y ∷ drop (i + 1) xs) (sym is)

pub array_here : (xs : List Item) (n i left : ℕ) (x d : Item) (a : ArrayDecl) → Found_from xs n i left → i < length xs → x ≡ get_or xs i d → x ≡ items.Array a → left ≡ 0 → a.name ≡ named xs n
array_here xs n i left x d a h within is e none =
    sym (ap (λ k. unwrap_or (slice_get (a.name ∷ flat_map names_in (drop (i + 1) xs)) k) []) none)
    ∙ sym (ap (λ y. named (y ∷ drop (i + 1) xs) left) e)
    ∙ sym (ap (λ ys. named ys left) (opened xs i x d within is)) ∙ h.same

next : (name : List ℕ) (rest : List (List ℕ)) (left : ℕ) → left ≢ 0 → unwrap_or (slice_get rest (left - 1)) [] ≡ unwrap_or (slice_get (name ∷ rest) left) []
next name rest zero some = absurd (some refl)
next name rest (suc n) some = let e : suc n - 1 ≡ n = omega arith in ap (λ k. unwrap_or (slice_get rest k) []) e

pub array_behind : (xs : List Item) (n i left : ℕ) (x d : Item) (a : ArrayDecl) → Found_from xs n i left → i < length xs → x ≡ get_or xs i d → x ≡ items.Array a → left ≢ 0 → Found_from xs n (i + 1) (left - 1)
array_behind xs n i left x d a h within is e some = record {
  same =
      next a.name (flat_map names_in (drop (i + 1) xs)) left some
      ∙ sym (ap (λ y. named (y ∷ drop (i + 1) xs) left) e)
      ∙ sym (ap (λ ys. named ys left) (opened xs i x d within is)) ∙ h.same;
}

pub no_array : (xs : List Item) (n i left : ℕ) (x d : Item) → Found_from xs n i left → i < length xs → x ≡ get_or xs i d → ((a : ArrayDecl) → x ≢ items.Array a) → Found_from xs n (i + 1) left
no_array xs n i left x d h within is other = record {
  same = sym (by_form x other) ∙ sym (ap (λ ys. named ys left) (opened xs i x d within is)) ∙ h.same;
}
  where
    by_form : (y : Item) → ((a : ArrayDecl) → y ≢ items.Array a) → named (y ∷ drop (i + 1) xs) left ≡ named (drop (i + 1) xs) left
    by_form (items.Array a) not = absurd (not a refl)
    by_form (items.Const a) not = refl
    by_form (items.Function a) not = refl
    by_form (items.Call a) not = refl
    by_form (items.Loop a) not = refl
    by_form (items.Block a) not = refl
    by_form (items.Print a) not = refl

pub none_left : (xs : List Item) (n i left : ℕ) → Found_from xs n i left → length xs ≤ i → [] ≡ named xs n
none_left xs n i left h all = sym (ap (λ ys. named ys left) (drop_all i xs all)) ∙ h.same

pub ruleset turns = (from_start, array_here, array_behind, no_array, none_left)
