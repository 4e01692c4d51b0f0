-- Operations under which all brackets and all orders of a list give one outcome: its total.
use Rattle.std.proofs.Common.{◌≡◌, ℕ, ◌<◌, ◌≤◌, Option, Some, None, List, [], ◌∷◌, ◌++◌, length, sym, ap, subst, ◌∙◌, arith}
use Rattle.std.specs.List.{cons_option}
use Rattle.std.specs.List.Sorted.{IsPermutation}
use Rattle.std.proofs.lemmas.List.{length-append}
use Rattle.std.proofs.lemmas.Option.{MatchOption-at_none, MatchOption-at_some}
use Rattle.pts_types.specs.declared.operation.Policy.{Policy}
use Rattle.pts_types.specs.declared.operation.Policy.TheVariants.{Seq}
use Rattle.pts_groupings.specs.Brackets.{combined, Bracketing, Leaf, Node, leaves, outcome_of, NoncommutativeSum, GeneralizedSum}
use Rattle.pts_groupings.specs.Chunks.{chunk_count, IsGrouping}
use Rattle.pts_groupings.specs.Sums.{all_given, sum_of, IsSum}
use Rattle.pts_groupings.specs.Scans.{Scan, belonging, HasStart, place, places_of, IsPlaceSum}
use Rattle.pts_groupings.proofs.Sums.{sum_is_generalized}
use Rattle.pts_groupings.proofs.Places.{place_is_sum, map-range_same}
use Rattle.pts_groupings.proofs.Throws.{Items, Values, Throws, items_of}

-- the lists that have a total, and it, which neither brackets nor the order change
pub record HasTotals {V : Type 0} (op : V → V → Option V) (May : List V → Type 0) (total : List V → Option V) : Type 0 where
  pub one : (x : V) → May (x ∷ []) → total (x ∷ []) ≡ Some x
  pub front : (xs ys : List V) → May (xs ++ ys) → May xs
  pub back : (xs ys : List V) → May (xs ++ ys) → May ys
  pub adds : (xs ys : List V) → 1 ≤ length xs → 1 ≤ length ys → May (xs ++ ys) → combined op (total xs) (total ys) ≡ total (xs ++ ys)
  pub may_reorder : (xs ys : List V) → IsPermutation xs ys → May xs → May ys
  pub reorders : (xs ys : List V) → IsPermutation xs ys → May xs → total ys ≡ total xs

leaves_some : {V : Type 0} (t : Bracketing V) → 1 ≤ length (leaves t)
leaves_some (Leaf v) = omega arith
leaves_some (Node a b) =
    let l = leaves_some a in
    let e = length-append (leaves a) (leaves b) in
    omega (arith, l, e)

module _ {V : Type 0} (op : V → V → Option V) (May : List V → Type 0) (total : List V → Option V) (h : HasTotals op May total) where
  pub bracketing_total : (t : Bracketing V) → May (leaves t) → outcome_of op t ≡ total (leaves t)
  bracketing_total (Leaf v) may = sym (h.one v may)
  bracketing_total (Node a b) may =
      let first = bracketing_total a (h.front (leaves a) (leaves b) may) in
      let second = bracketing_total b (h.back (leaves a) (leaves b) may) in
      ap (λ o. combined op o (outcome_of op b)) first
      ∙ ap (combined op (total (leaves a))) second
      ∙ h.adds (leaves a) (leaves b) (leaves_some a) (leaves_some b) may

  pub noncommutative_total : (items : List V) (o : Option V) → NoncommutativeSum op items o → May items → o ≡ total items
  noncommutative_total items o s may = sym s.gives ∙ bracketing_total s.brackets (subst May (sym s.in_order) may) ∙ ap total s.in_order

  pub generalized_total : (items : List V) (o : Option V) → GeneralizedSum op items o → May items → o ≡ total items
  generalized_total items o s may =
      noncommutative_total s.order o s.bracketed (h.may_reorder items s.order s.permuted may) ∙ h.reorders items s.order s.permuted may

  one_sum : (init : V) (items : List (Option V)) (a b : Option V) → ((vs : List V) → all_given items ≡ Some vs → May (init ∷ vs))
      → IsSum op init items a → IsSum op init items b → Items items → a ≡ b
  one_sum init items a b may s s' (Values vs e given) =
      generalized_total (init ∷ vs) a (MatchOption-at_some (a ≡ None) (λ values. GeneralizedSum op (init ∷ values) a) vs given s) (may vs given)
      ∙ sym (generalized_total (init ∷ vs) b (MatchOption-at_some (b ≡ None) (λ values. GeneralizedSum op (init ∷ values) b) vs given s') (may vs given))
  one_sum init items a b may s s' (Throws _ given) =
      MatchOption-at_none (a ≡ None) (λ values. GeneralizedSum op (init ∷ values) a) given s
      ∙ sym (MatchOption-at_none (b ≡ None) (λ values. GeneralizedSum op (init ∷ values) b) given s')

  -- the sum of every grouping is the left fold
  pub every_grouping : (policy : Policy) (workers size : ℕ) (groups : List (List ℕ)) (init : V) (items : List (Option V))
      → 0 < size → IsGrouping workers (chunk_count (length items) size) groups → ((vs : List V) → all_given items ≡ Some vs → May (init ∷ vs))
      → sum_of policy size groups op init items ≡ sum_of Seq size groups op init items
  every_grouping policy workers size groups init items some g may =
      one_sum init items (sum_of policy size groups op init items) (sum_of Seq size groups op init items) may
      (sum_is_generalized op policy workers size groups init items some g)
      (sum_is_generalized op Seq workers size groups init items some g) (items_of items)

  one_place : (scan : Scan) (init : Option V) (items : List (Option V)) (p : ℕ) (a b : Option V)
      → ((vs : List V) → all_given (belonging scan items p) ≡ Some vs → May (cons_option init vs))
      → IsPlaceSum scan op init items p a → IsPlaceSum scan op init items p b → Items (belonging scan items p) → a ≡ b
  one_place scan init items p a b may s s' (Values vs e given) =
      noncommutative_total (cons_option init vs) a (MatchOption-at_some (a ≡ None)
      (λ values. NoncommutativeSum op (cons_option init values) a) vs given s) (may vs given)
      ∙ sym (noncommutative_total (cons_option init vs) b (MatchOption-at_some (b ≡ None)
      (λ values. NoncommutativeSum op (cons_option init values) b) vs given s') (may vs given))
  one_place scan init items p a b may s s' (Throws _ given) =
      MatchOption-at_none (a ≡ None) (λ values. NoncommutativeSum op (cons_option init values) a) given s
      ∙ sym (MatchOption-at_none (b ≡ None) (λ values. NoncommutativeSum op (cons_option init values) b) given s')

  -- the places are those of the left folds, whatever the policy and the chunk length
  pub every_place : (policy : Policy) (scan : Scan) (size : ℕ) (init : Option V) (items : List (Option V)) → 0 < size → HasStart scan init
      → ((p : ℕ) (vs : List V) → p < length items → all_given (belonging scan items p) ≡ Some vs → May (cons_option init vs))
      → places_of policy scan size op init items ≡ places_of Seq scan size op init items
  every_place policy scan size init items some begun may =
      ap all_given (map-range_same (place policy scan size op init items) (place Seq scan size op init items) 0 (length items)
      (λ p b. let l : p < length items = omega (arith, b) in
      one_place scan init items p (place policy scan size op init items p) (place Seq scan size op init items p) (λ vs. may p vs l)
      (place_is_sum op policy scan size init items p some begun l)
      (place_is_sum op Seq scan size init items p some begun l) (items_of (belonging scan items p))))
