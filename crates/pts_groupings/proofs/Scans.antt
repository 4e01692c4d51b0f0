-- What a scan writes, and when it throws.
use Rattle.std.proofs.Common.{◌≡◌, ℕ, ◌<◌, Option, Some, None, List, length, map, get_or, sym, ap, subst, ◌∙◌, arith}
use Rattle.std.specs.List.{range_with_len, Contains, slice_get}
use Rattle.std.specs.Option.{unwrap_or}
use Rattle.std.proofs.lemmas.List.{length-map}
use Rattle.std.proofs.lemmas.List.FromFn.{get_or-map-range_with_len, length-map-range_with_len}
use Rattle.std.proofs.lemmas.Option.{MatchOption-at_none}
use Rattle.pts_types.specs.declared.operation.Policy.{Policy}
use Rattle.pts_groupings.specs.Brackets.{NoncommutativeSum}
use Rattle.pts_groupings.specs.Sums.{all_given}
use Rattle.pts_groupings.specs.Scans.{Scan, belonging, HasStart, place, places_of, IsPlaceSum, HasThrow}
use Rattle.pts_groupings.proofs.Throws.{Items, Values, Throws, items_of, given_none, value_at}
use Rattle.pts_groupings.proofs.Places.{place_is_sum}

-- the outcomes of a function at the numbers below n, where all are values
values_at : {V : Type 0} (f : ℕ → Option V) (n : ℕ) (ws : List V) (p : ℕ) → p < n → map f (range_with_len 0 n) ≡ map Some ws → slice_get ws p ≡ f p
values_at f n ws p l e = value_at ws p ∙ ap (λ xs. get_or xs p None) (sym e) ∙ get_or-map-range_with_len f 0 n p p None l (omega arith)

pub given_values : {V : Type 0} (items : List (Option V)) (ws : List V) → all_given items ≡ Some ws → Items items → items ≡ map Some ws
given_values items ws e (Values vs same given) = same ∙ ap (map Some) (ap (λ o. unwrap_or o ws) (sym given ∙ e))
given_values items ws e (Throws h given) = absurd (let none = given in cc)

throw_place : {V : Type 0} (f : ℕ → Option V) (n : ℕ) → all_given (map f (range_with_len 0 n)) ≡ None → Items (map f (range_with_len 0 n))
    → (p : ℕ) × (p < n) × (f p ≡ None)
throw_place f n e (Values vs same given) = absurd (let some = given in cc)
throw_place f n e (Throws h given) =
    let count = length-map-range_with_len f 0 n in
    let l : h.0 < n = (let below = h.1 in omega (arith, below, count)) in
    (h.0, l, sym (get_or-map-range_with_len f 0 n h.0 h.0 None l (omega arith)) ∙ h.2)

place_contained : {V : Type 0} (f : ℕ → Option V) (n p : ℕ) → p < n → f p ≡ None → Contains (map f (range_with_len 0 n)) None
place_contained f n p l e =
    let count = length-map-range_with_len f 0 n in
    (p, omega (arith, l, count), get_or-map-range_with_len f 0 n p p None l (omega arith) ∙ e)

module _ {V : Type 0} (op : V → V → Option V) (policy : Policy) (scan : Scan) (size : ℕ) (init : Option V) (items : List (Option V)) (some : 0 < size) (begun : HasStart scan init) where
  -- what is written at each place is the sum that the standard names for it
  pub written_is_sum : (written : List V) → places_of policy scan size op init items ≡ Some written → (p : ℕ) → p < length items
      → IsPlaceSum scan op init items p (slice_get written p)
  written_is_sum written e p l =
      let at = place policy scan size op init items in
      let all = given_values (map at (range_with_len 0 (length items))) written e (items_of (map at (range_with_len 0 (length items)))) in
      subst (IsPlaceSum scan op init items p) (sym (values_at at (length items) written p l all)) (place_is_sum op policy scan size init items p some begun l)

  pub length-written : (written : List V) → places_of policy scan size op init items ≡ Some written → length written ≡ length items
  length-written written e =
      let at = place policy scan size op init items in
      let all = given_values (map at (range_with_len 0 (length items))) written e (items_of (map at (range_with_len 0 (length items)))) in
      sym (length-map written Some) ∙ ap length (sym all) ∙ length-map-range_with_len at 0 (length items)

  -- where a scan throws, a throw lies in the sum of one of its places
  pub throw_is_sum : places_of policy scan size op init items ≡ None → HasThrow scan op init items
  throw_is_sum e =
      let at = place policy scan size op init items in
      let found = throw_place at (length items) e (items_of (map at (range_with_len 0 (length items)))) in
      (found.0, found.1, subst (IsPlaceSum scan op init items found.0) found.2 (place_is_sum op policy scan size init items found.0 some begun found.1))

  -- where an item of a place throws, so does the scan
  pub item_throws : (p : ℕ) → p < length items → all_given (belonging scan items p) ≡ None → places_of policy scan size op init items ≡ None
  item_throws p l e =
      let at = place policy scan size op init items in
      let none : at p ≡ None =
      MatchOption-at_none (at p ≡ None) (λ values. NoncommutativeSum op _ (at p)) e (place_is_sum op policy scan size init items p some begun l) in
      given_none (map at (range_with_len 0 (length items))) (place_contained at (length items) p l none)
