-- Where all brackets and orders give one outcome, so do all groupings of a loop's reduction.
use Rattle.std.proofs.Common.{◌≡◌, ℕ, ◌<◌, ◌≤◌, Option, Some, List, [], ◌∷◌, ◌++◌, length, map, refl, sym, ap, subst, ◌∙◌, append_assoc, arith}
use Rattle.std.specs.List.{flat_map, fold, range_with_len, All}
use Rattle.std.specs.List.Sorted.{IsPermutation}
use Rattle.std.proofs.lemmas.Grind.{flat_map-append}
use Rattle.std.proofs.lemmas.List.Elements.{All-nil, All-cons}
use Rattle.std.proofs.lemmas.List.Sorted.{IsPermutation-cons, IsPermutation-middle, IsPermutation-sym, length_permutation}
use Rattle.pts_groupings.specs.Brackets.{combined, outcome_of, leaves, NoncommutativeSum}
use Rattle.pts_groupings.specs.Chunks.{chunk, chunk_count, times, IsGrouping}
use Rattle.pts_groupings.specs.Reductions.{contributed, accumulator, reduction_of}
use Rattle.pts_groupings.proofs.Chunks.{all_chunks}
use Rattle.pts_groupings.proofs.Orders.{grouped, same_parts, times-count_up}
use Rattle.pts_groupings.proofs.Totals.{HasTotals, noncommutative_total}
use Rattle.pts_groupings.proofs.Trees.{comb_sum, list_sum, part_trees, sum_as}

-- ---- the whole reduction as one sum

each_begun : {V : Type 0} (size : ℕ) (contributions : List (List V)) (identity : V) (others : List (List ℕ))
    → All (λ group. 1 ≤ length (identity ∷ contributed size contributions group)) others
each_begun size contributions identity [] = All-nil (λ group. 1 ≤ length (identity ∷ contributed size contributions group))
each_begun size contributions identity (group ∷ others) =
    All-cons (λ g. 1 ≤ length (identity ∷ contributed size contributions g)) group others (omega arith) (each_begun size contributions identity others)

pub whole_reduction : {V : Type 0} (size : ℕ) (first : List ℕ) (others : List (List ℕ)) (op : V → V → Option V) (live identity : V)
    (contributions : List (List V))
    → NoncommutativeSum op (live ∷ (contributed size contributions first ++ flat_map (λ group. identity ∷ contributed size contributions group) others))
    (reduction_of size (first ∷ others) op live identity contributions)
whole_reduction size first others op live identity contributions =
    let own = list_sum op (live ∷ contributed size contributions first) (omega arith) in
    let t = part_trees op (λ group. identity ∷ contributed size contributions group) others (each_begun size contributions identity others) in
    sum_as op _ _ _ _ (comb_sum op own.brackets t.trees)
    (ap (λ l. l ++ flat_map leaves t.trees) own.in_order ∙ ap (λ l. live ∷ (contributed size contributions first ++ l)) t.hold)
    (ap (λ o. fold (combined op) o (map (outcome_of op) t.trees)) own.gives
    ∙ ap (fold (combined op) (accumulator size op contributions live first)) t.give)

-- ---- what the groups contribute

pub flat_map-flat_map : {A B C : Type 0} (h : B → List C) (f : A → List B) (xs : List A) → flat_map h (flat_map f xs) ≡ flat_map (λ x. flat_map h (f x)) xs
flat_map-flat_map h f [] = refl
flat_map-flat_map h f (x ∷ xs) = flat_map-append h (f x) (flat_map f xs) ∙ ap (λ l. flat_map h (f x) ++ l) (flat_map-flat_map h f xs)

flat_map-same : {A B : Type 0} (f g : A → List B) → ((x : A) → f x ≡ g x) → (xs : List A) → flat_map f xs ≡ flat_map g xs
flat_map-same f g same [] = refl
flat_map-same f g same (x ∷ xs) = let e = same x in let e' = flat_map-same f g same xs in cc

-- what all groups contribute is a permutation of what all positions do
contributions_permuted : {V : Type 0} (workers size : ℕ) (groups : List (List ℕ)) (contributions : List (List V)) → 0 < size
    → IsGrouping workers (chunk_count (length contributions) size) groups
    → IsPermutation (flat_map (λ own. own) contributions) (flat_map (contributed size contributions) groups)
contributions_permuted workers size groups contributions some g =
    let count = chunk_count (length contributions) size in
    let part = λ (c : ℕ). flat_map (λ own. own) (chunk size contributions c) in
    let same : (y : ℕ) → times y (flat_map (λ group. group) groups) ≡ times y (range_with_len 0 count) = λ y. g.each_once y ∙ sym (times-count_up y count) in
    let moved = same_parts part (range_with_len 0 count) (flat_map (λ group. group) groups) same in
    let from : flat_map part (range_with_len 0 count) ≡ flat_map (λ own. own) contributions =
    sym (flat_map-flat_map (λ own. own) (chunk size contributions) (range_with_len 0 count))
    ∙ ap (flat_map (λ own. own)) (all_chunks size contributions some) in
    let to : flat_map part (flat_map (λ group. group) groups) ≡ flat_map (contributed size contributions) groups =
    flat_map-flat_map part (λ group. group) groups
    ∙ flat_map-same (flat_map part) (contributed size contributions)
    (λ group. sym (flat_map-flat_map (λ own. own) (chunk size contributions) group)) groups in
    subst (IsPermutation (flat_map (λ own. own) contributions)) to
    (subst (λ l. IsPermutation l (flat_map part (flat_map (λ group. group) groups))) from moved)

module _ {V : Type 0} (op : V → V → Option V) (May : List V → Type 0) (total : List V → Option V) (h : HasTotals op May total)
    (live identity : V) (neutral : op live identity ≡ Some live) (may_begin : (l : List V) → May (live ∷ l) → May (live ∷ identity ∷ l)) where
  -- an identity behind the live value drops out
  drops_alone : May (live ∷ []) → total (live ∷ identity ∷ []) ≡ total (live ∷ [])
  drops_alone may =
      let both = may_begin [] may in
      sym (h.adds (live ∷ []) (identity ∷ []) (omega arith) (omega arith) both)
      ∙ ap (λ o. combined op o (total (identity ∷ []))) (h.one live may)
      ∙ ap (combined op (Some live)) (h.one identity (h.back (live ∷ []) (identity ∷ []) both))
      ∙ neutral ∙ sym (h.one live may)

  drops : (l : List V) → May (live ∷ l) → total (live ∷ identity ∷ l) ≡ total (live ∷ l)
  drops [] may = drops_alone may
  drops (x ∷ l) may =
      let both = may_begin (x ∷ l) may in
      let alone = h.front (live ∷ []) (x ∷ l) may in
      sym (h.adds (live ∷ identity ∷ []) (x ∷ l) (omega arith) (omega arith) both)
      ∙ ap (λ o. combined op o (total (x ∷ l))) (drops_alone alone)
      ∙ h.adds (live ∷ []) (x ∷ l) (omega arith) (omega arith) may

  -- so do all identities, wherever the groups begin
  all_drop : {A : Type 0} (own : A → List V) (groups : List A) (before : List V) → May (live ∷ (before ++ flat_map own groups))
      → May (live ∷ (before ++ flat_map (λ group. identity ∷ own group) groups))
      × (total (live ∷ (before ++ flat_map (λ group. identity ∷ own group) groups)) ≡ total (live ∷ (before ++ flat_map own groups)))
  all_drop own [] before may = (may, refl)
  all_drop own (group ∷ groups) before may =
      let behind = flat_map (λ g. identity ∷ own g) groups in
      let given = append_assoc before (own group) (flat_map own groups) in
      let so = all_drop own groups (before ++ own group) (subst (λ l. May (live ∷ l)) (sym given) may) in
      let same = append_assoc before (own group) behind in
      let may' : May (live ∷ (before ++ (own group ++ behind))) = subst (λ l. May (live ∷ l)) same so.0 in
      let moved : IsPermutation (live ∷ identity ∷ (before ++ (own group ++ behind))) (live ∷ (before ++ identity ∷ (own group ++ behind))) =
      IsPermutation-cons live _ _ (IsPermutation-sym _ _ (IsPermutation-middle before identity (own group ++ behind))) in
      let begun = may_begin (before ++ (own group ++ behind)) may' in (
        h.may_reorder _ _ moved begun,
        h.reorders _ _ moved begun
            ∙ drops (before ++ (own group ++ behind)) may'
            ∙ ap (λ l. total (live ∷ l)) (sym same)
            ∙ so.1
            ∙ ap (λ l. total (live ∷ l)) given,
      )

  -- the reduction over every grouping is the total of the live value and all contributions
  pub every_reduction : (workers size : ℕ) (groups : List (List ℕ)) (contributions : List (List V)) → 0 < size
      → IsGrouping workers (chunk_count (length contributions) size) groups → May (live ∷ flat_map (λ own. own) contributions)
      → reduction_of size groups op live identity contributions ≡ total (live ∷ flat_map (λ own. own) contributions)
  every_reduction workers size [] contributions some g may = none contributions
      (length_permutation contributions [] (grouped workers size contributions [] some g)) may
    where
      none : (contributions : List (List V)) → 0 ≡ length contributions → May (live ∷ flat_map (λ own. own) contributions)
          → Some live ≡ total (live ∷ flat_map (λ own. own) contributions)
      none [] e may = sym (h.one live may)
      none (own ∷ contributions) e may = absurd (omega (arith, e))
  every_reduction workers size (first ∷ others) contributions some g may =
      let moved = IsPermutation-cons live _ _ (contributions_permuted workers size (first ∷ others) contributions some g) in
      let may' = h.may_reorder _ _ moved may in
      let so = all_drop (contributed size contributions) others (contributed size contributions first) may' in
      noncommutative_total op May total h _ _ (whole_reduction size first others op live identity contributions) so.0
      ∙ so.1 ∙ h.reorders _ _ moved may
