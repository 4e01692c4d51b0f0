-- A sum over any grouping is one that the standard names.
use Rattle.std.proofs.Common.{◌≡◌, ℕ, ◌<◌, Option, Some, None, List, [], ◌∷◌, length, map, refl, sym, ap, subst, ◌∙◌, arith}
use Rattle.std.specs.List.{flat_map, fold, Contains}
use Rattle.std.specs.Option.{MatchOption}
use Rattle.std.proofs.lemmas.List.{length-map}
use Rattle.std.proofs.lemmas.List.Sorted.{IsPermutation-refl, IsPermutation-cons, Contains-permutation}
use Rattle.pts_types.specs.declared.operation.Policy.{Policy}
use Rattle.pts_types.specs.declared.operation.Policy.TheVariants.{Seq}
use Rattle.pts_groupings.specs.Brackets.{combined, Leaf, GeneralizedSum}
use Rattle.pts_groupings.specs.Chunks.{chunk, chunk_count, IsGrouping}
use Rattle.pts_groupings.specs.Sums.{folded, sum_of, IsSum}
use Rattle.pts_groupings.proofs.Trees.{comb_sum, list_sum, part_trees, sum_as}
use Rattle.pts_groupings.proofs.Chunks.{chunks-map}
use Rattle.pts_groupings.proofs.Throws.{Items, Values, Throws, items_of, fold_throws, part_throws}
use Rattle.pts_groupings.proofs.Orders.{grouped, each_some}

pub map-same : {A B : Type 0} (f g : A → B) → ((x : A) → f x ≡ g x) → (xs : List A) → map f xs ≡ map g xs
map-same f g same [] = refl
map-same f g same (x ∷ xs) = let e = same x in let e' = map-same f g same xs in cc

seq_sum : {V : Type 0} (op : V → V → Option V) (init : V) (vs : List V) → GeneralizedSum op (init ∷ vs) (fold (combined op) (Some init) (map Some vs))
seq_sum op init vs = record { order = init ∷ vs; permuted = IsPermutation-refl (init ∷ vs); bracketed = list_sum op (init ∷ vs) (omega arith) }

shared_sum : {V : Type 0} (op : V → V → Option V) (workers size : ℕ) (groups : List (List ℕ)) (init : V) (vs : List V)
    → 0 < size → IsGrouping workers (chunk_count (length vs) size) groups
    → GeneralizedSum op (init ∷ vs) (fold (combined op) (Some init) (map (λ group. folded op (flat_map (chunk size (map Some vs)) group)) groups))
shared_sum op workers size groups init vs some g =
    let parts = flat_map (chunk size vs) in
    let t = part_trees op (flat_map (chunk size vs)) groups (each_some workers size vs groups some g) in
    let values : map (λ group. folded op (map Some (flat_map (chunk size vs) group))) groups
    ≡ map (λ group. folded op (flat_map (chunk size (map Some vs)) group)) groups =
    map-same (λ group. folded op (map Some (flat_map (chunk size vs) group))) (λ group. folded op (flat_map (chunk size (map Some vs)) group))
    (λ group. ap (folded op) (sym (chunks-map Some size vs group))) groups in
    record {
      order = init ∷ flat_map (flat_map (chunk size vs)) groups;
      permuted = IsPermutation-cons init vs (flat_map (flat_map (chunk size vs)) groups) (grouped workers size vs groups some g);
      bracketed = sum_as op _ _ _ _ (comb_sum op (Leaf init) t.trees) (ap (λ l. init ∷ l) t.hold) (ap (fold (combined op) (Some init)) (t.give ∙ values));
    }

values_sum : {V : Type 0} (op : V → V → Option V) (policy : Policy) (workers size : ℕ) (groups : List (List ℕ)) (init : V) (vs : List V)
    → 0 < size → IsGrouping workers (chunk_count (length vs) size) groups
    → GeneralizedSum op (init ∷ vs) (sum_of policy size groups op init (map Some vs))
values_sum op Seq workers size groups init vs some g = seq_sum op init vs
values_sum op policy workers size groups init vs some g = shared_sum op workers size groups init vs some g

throws_sum : {V : Type 0} (op : V → V → Option V) (policy : Policy) (workers size : ℕ) (groups : List (List ℕ)) (init : V) (items : List (Option V))
    → 0 < size → IsGrouping workers (chunk_count (length items) size) groups → Contains items None
    → sum_of policy size groups op init items ≡ None
throws_sum op Seq workers size groups init items some g h = fold_throws op items (Some init) h
throws_sum op policy workers size groups init items some g h =
    fold_throws op (map (λ group. folded op (flat_map (chunk size items) group)) groups) (Some init)
    (part_throws op (flat_map (chunk size items)) groups
    (Contains-permutation items (flat_map (flat_map (chunk size items)) groups) None (grouped workers size items groups some g) h))

either_sum : {V : Type 0} (op : V → V → Option V) (policy : Policy) (workers size : ℕ) (groups : List (List ℕ)) (init : V) (items : List (Option V))
    → 0 < size → IsGrouping workers (chunk_count (length items) size) groups → Items items → IsSum op init items (sum_of policy size groups op init items)
either_sum {V} op policy workers size groups init items some g (Values vs e given) =
    let count : length items ≡ length vs = ap length e ∙ length-map vs Some in
    let sum : GeneralizedSum op (init ∷ vs) (sum_of policy size groups op init (map Some vs)) =
    values_sum op policy workers size groups init vs some (subst (λ n. IsGrouping workers (chunk_count n size) groups) count g) in
    let own : GeneralizedSum op (init ∷ vs) (sum_of policy size groups op init items) =
    subst (λ l. GeneralizedSum op (init ∷ vs) (sum_of policy size groups op init l)) (sym e) sum in
    subst (λ o. MatchOption o (sum_of policy size groups op init items ≡ None)
    (λ values. GeneralizedSum op (init ∷ values) (sum_of policy size groups op init items)))
    (sym given) own
either_sum {V} op policy workers size groups init items some g (Throws h given) =
    subst (λ o. MatchOption o (sum_of policy size groups op init items ≡ None)
    (λ values. GeneralizedSum op (init ∷ values) (sum_of policy size groups op init items)))
    (sym given) (throws_sum op policy workers size groups init items some g h)

-- the sum of every grouping is a generalized sum of init and the items, and throws where a transform throws
pub sum_is_generalized : {V : Type 0} (op : V → V → Option V) (policy : Policy) (workers size : ℕ) (groups : List (List ℕ)) (init : V) (items : List (Option V))
    → 0 < size → IsGrouping workers (chunk_count (length items) size) groups → IsSum op init items (sum_of policy size groups op init items)
sum_is_generalized op policy workers size groups init items some g = either_sum op policy workers size groups init items some g (items_of items)
