-- Items gathered so far.
use Rattle.std.proofs.Common.{◌≡◌, ℕ, ◌+◌, ◌<◌, ◌≤◌, Bool, Option, Some, List, [], ◌∷◌, ◌++◌, length, take, get_or, slice_get, sym, ap, subst, ◌∙◌}
use Rattle.std.proofs.lemmas.List.{take_more, take_all}
use Rattle.std.proofs.lemmas.Option.{slice_get_within, get_or_from_slice_get}
use Rattle.pts_types.specs.declared.operation.Policy.TheVariants.{Par}
use Rattle.pts_types.specs.declared.value.Value.{Value}
use Rattle.pts_store.specs.Writes.{Writes}
use Rattle.pts_groupings.specs.Scans.{Scan, places_of}
use Rattle.pts_sums.specs.Places.{Puts}

pub gathered_more : {A : Type 0} (xs front : List A) (n : ℕ) (x : A) → front ≡ take n xs → Some x ≡ slice_get xs n → front ++ x ∷ [] ≡ take (n + 1) xs
gathered_more xs front n x is at =
    ap (λ f. f ++ x ∷ []) is
    ∙ ap (λ y. take n xs ++ y ∷ []) (sym (get_or_from_slice_get xs n x x (sym at)))
    ∙ sym (take_more xs n x (slice_get_within xs n x (sym at)))

pub all_gathered : {A : Type 0} (xs front : List A) (n : ℕ) → front ≡ take n xs → length xs ≤ n → front ≡ xs
all_gathered xs front n is all = is ∙ take_all n xs all

-- what is put by the items gathered and the operation of their terms is put by those of the terms
pub put_gathered : (order : Scan) (size : ℕ) (init : Option Value) (all : Bool) (array first : ℕ) (old new : Writes)
    (op own : Value → Value → Option Value) (items gathered : List (Option Value)) → own ≡ op → gathered ≡ items
    → Puts all (places_of Par order size own init gathered) array first old new → Puts all (places_of Par order size op init items) array first old new
put_gathered order size init all array first old new op own items gathered same_op same_items puts =
    subst (λ xs. Puts all (places_of Par order size op init xs) array first old new) same_items
    (subst (λ f. Puts all (places_of Par order size f init gathered) array first old new) same_op puts)
