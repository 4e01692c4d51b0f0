-- Folds over chunks and groups, one more at a time.
use Rattle.std.proofs.Common.{◌≡◌, ℕ, zero, suc, ◌+◌, ◌<◌, Option, Some, None, List, [], ◌∷◌, ◌++◌, length, get_or, map, drop, refl, sym, ap, subst, ◌∙◌}
use Rattle.std.specs.List.{flat_map, fold, range_with_len}
use Rattle.std.proofs.lemmas.Grind.{fold-append}
use Rattle.std.proofs.lemmas.List.{append-nil, drop_more}
use Rattle.pts_types.specs.declared.operation.Policy.{Policy}
use Rattle.pts_types.specs.declared.operation.Policy.TheVariants.{Seq}
use Rattle.pts_groupings.specs.Brackets.{combined}
use Rattle.pts_groupings.specs.Chunks.{chunk, chunk_count, sharing, single_group, IsGrouping}
use Rattle.pts_groupings.specs.Sums.{folded, sum_of}
use Rattle.pts_groupings.proofs.Chunks.{all_chunks}
use Rattle.pts_groupings.proofs.Single.{only_grouping}
use Rattle.pts_sums.specs.Folds.{with_item, with_items, outcome_in}

-- a fold that has begun is std's
pub begun : {V : Type 0} (op : V → V → Option V) (first : Option V) (items : List (Option V)) → with_items op (Some first) items ≡ Some (fold (combined op) first items)
begun op first [] = refl
begun op first (x ∷ xs) = begun op (combined op first x) xs

pub folded_as : {V : Type 0} (op : V → V → Option V) (items : List (Option V)) → folded op items ≡ outcome_in (with_items op None items)
folded_as op [] = refl
folded_as op (x ∷ xs) = sym (ap outcome_in (begun op x xs))

module _ {V : Type 0} (op : V → V → Option V) (size : ℕ) (items : List (Option V)) where
  -- one chunk more of a group
  pub chunk_more : (so_far : Option (Option V)) (group : List ℕ) (at number : ℕ) → at < length group → number ≡ get_or group at 0
      → with_items op so_far (flat_map (chunk size items) (drop at group))
      ≡ with_items op (with_items op so_far (chunk size items number)) (flat_map (chunk size items) (drop (at + 1) group))
  chunk_more so_far group at number l e =
      ap (λ cs. with_items op so_far (flat_map (chunk size items) cs)) (drop_more group at 0 l)
      ∙ ap (λ c. with_items op so_far (chunk size items c ++ flat_map (chunk size items) (drop (at + 1) group))) (sym e)
      ∙ fold-append (with_item op) so_far (chunk size items number) (flat_map (chunk size items) (drop (at + 1) group))

  -- one group more of a sum
  pub group_more : (total : Option V) (groups : List (List ℕ)) (at : ℕ) (group : List ℕ) → at < length groups → group ≡ get_or groups at group
      → fold (combined op) total (map (λ g. folded op (flat_map (chunk size items) g)) (drop at groups))
      ≡ fold (combined op) (combined op total (folded op (flat_map (chunk size items) group))) (map (λ g. folded op (flat_map (chunk size items) g)) (drop (at + 1) groups))
  group_more total groups at group l e =
      ap (λ gs. fold (combined op) total (map (λ g. folded op (flat_map (chunk size items) g)) gs)) (drop_more groups at group l)
      ∙ ap (λ g. fold (combined op) (combined op total (folded op (flat_map (chunk size items) g))) (map (λ h. folded op (flat_map (chunk size items) h)) (drop (at + 1) groups))) (sym e)

  -- one group more of all items
  pub items_more : (so_far : Option (Option V)) (groups : List (List ℕ)) (at : ℕ) (group : List ℕ) → at < length groups → group ≡ get_or groups at group
      → with_items op so_far (flat_map (flat_map (chunk size items)) (drop at groups))
      ≡ with_items op (with_items op so_far (flat_map (chunk size items) group)) (flat_map (flat_map (chunk size items)) (drop (at + 1) groups))
  items_more so_far groups at group l e =
      ap (λ gs. with_items op so_far (flat_map (flat_map (chunk size items)) gs)) (drop_more groups at group l)
      ∙ ap (λ g. with_items op so_far (flat_map (chunk size items) g ++ flat_map (flat_map (chunk size items)) (drop (at + 1) groups))) (sym e)
      ∙ fold-append (with_item op) so_far (flat_map (chunk size items) group) (flat_map (flat_map (chunk size items)) (drop (at + 1) groups))

-- all items stand in the one group
pub single_items : {A : Type 0} (size : ℕ) (items : List A) (chunks : ℕ) → flat_map (chunk size items) (range_with_len 0 chunks) ≡ items
    → flat_map (flat_map (chunk size items)) (single_group chunks) ≡ items
single_items size items zero e = e
single_items size items (suc n) e = append-nil (flat_map (chunk size items) (range_with_len 0 (suc n))) ∙ e

-- the groups of one worker have all items in their order
pub alone : {A : Type 0} (policy : Policy) (workers size : ℕ) (items : List A) (groups : List (List ℕ)) → policy ≡ Seq → 0 < size
    → IsGrouping (sharing policy workers) (chunk_count (length items) size) groups → flat_map (flat_map (chunk size items)) groups ≡ items
alone policy workers size items groups e some g =
    let own : IsGrouping 1 (chunk_count (length items) size) groups = subst (λ p. IsGrouping (sharing p workers) (chunk_count (length items) size) groups) e g in
    ap (flat_map (flat_map (chunk size items))) (only_grouping (chunk_count (length items) size) groups own)
    ∙ single_items size items (chunk_count (length items) size) (all_chunks size items some)

-- under seq, which one worker runs
pub in_order_sum : {V : Type 0} (op : V → V → Option V) (policy : Policy) (workers size : ℕ) (init : V) (items : List (Option V)) (groups : List (List ℕ)) → policy ≡ Seq → 0 < size
    → IsGrouping (sharing policy workers) (chunk_count (length items) size) groups
    → fold (combined op) (Some init) (flat_map (flat_map (chunk size items)) groups) ≡ sum_of policy size groups op init items
in_order_sum op policy workers size init items groups e some g =
    ap (fold (combined op) (Some init)) (alone policy workers size items groups e some g) ∙ ap (λ p. sum_of p size groups op init items) (sym e)

-- what a fold of all items gives when none is left
pub fold_done : {V : Type 0} (op : V → V → Option V) (so_far : Option (Option V)) (init : V) (items left : List (Option V)) → left ≡ []
    → with_items op so_far left ≡ with_items op (Some (Some init)) items → outcome_in so_far ≡ fold (combined op) (Some init) items
fold_done op so_far init items left e e' = ap outcome_in (sym (ap (with_items op so_far) e) ∙ e' ∙ begun op (Some init) items)
