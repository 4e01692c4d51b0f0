-- Scans in index order, one position after another.
use Rattle.std.proofs.Common.{◌≡◌, ℕ, zero, suc, ◌+◌, ◌-◌, ◌<◌, ◌≤◌, Bool, true, false, Option, Some, None, List, [], ◌∷◌, ◌++◌, length, map, take, refl, sym, ap, subst, ◌∙◌, append_assoc, arith, length-append}
use Rattle.std.specs.List.{cons_option, range_with_len, slice_get}
use Rattle.std.specs.Option.{option_map, option_to_list}
use Rattle.std.proofs.lemmas.Grind.{fold-append}
use Rattle.std.proofs.lemmas.List.{append-nil, length-map, map-append, take_all, take-append-le}
use Rattle.std.proofs.lemmas.List.FromFn.{get_or-map-range_with_len, length-map-range_with_len}
use Rattle.pts_types.specs.declared.value.Value.{Value}
use Rattle.pts_store.specs.Laws.{SameShape}
use Rattle.pts_store.specs.Stores.{Store, cells_in, put_cell}
use Rattle.pts_store.specs.Steps.{AreOf}
use Rattle.pts_store.specs.Writes.{Writes, PutsCell}
use Rattle.pts_store.proofs.Kept.{putting_keeps_shape}
use Rattle.pts_store.proofs.Together.{no_steps}
use Rattle.pts_groupings.specs.Scans.{Scan, Inclusive, Exclusive, reach}
use Rattle.pts_groupings.specs.Sums.{all_given, folded}
use Rattle.pts_groupings.proofs.Places.{map-range_same}
use Rattle.pts_groupings.proofs.Throws.{given_none}
use Rattle.pts_sums.specs.Folds.{with_item, with_items, outcome_in}
use Rattle.pts_sums.specs.Places.{next_place, turn_place, Puts, AreWritten}
use Rattle.pts_eval.specs.Sums.{elements_in_turn, with_places}
use Rattle.pts_lowering.specs.declared.forms.CellRange.{CellRange}
use Rattle.pts_sums.proofs.ChunkPlaces.{started}
use Rattle.pts_sums.proofs.PutPlaces.{put_both, put_first, put_none}
use Rattle.pts_elements.proofs.Singles.{number_more}

reach_below : (scan : Scan) (p : ℕ) → reach scan p ≤ p + 1
reach_below Inclusive p = omega arith
reach_below Exclusive p = omega arith

-- ---- places in a store

places-more : (store : Store) (array index : ℕ) (xs : List (Option Value)) (v : Value)
    → with_places store array index (xs ++ Some v ∷ []) ≡ put_cell (with_places store array index xs) array (index + length xs) v
places-more store array index [] v = ap (λ i. put_cell store array i v) (let e : index ≡ index + 0 = omega arith in e)
places-more store array index (None ∷ xs) v =
    places-more store array (index + 1) xs v ∙ ap (λ i. put_cell (with_places store array (index + 1) xs) array i v) (let e : (index + 1) + length xs ≡ index + suc (length xs) = omega arith in e)
places-more store array index (Some w ∷ xs) v =
    places-more (put_cell store array index w) array (index + 1) xs v
    ∙ ap (λ i. put_cell (with_places (put_cell store array index w) array (index + 1) xs) array i v) (let e : (index + 1) + length xs ≡ index + suc (length xs) = omega arith in e)

module _ (scan : Scan) (op : Value → Value → Option Value) (item : Value → Option Value) (init : Option Value) where
  -- the place at a position, by the elements that have been read
  abbrev pub at_place : List Value → ℕ → Option Value
  at_place = turn_place scan op item init

  -- a place needs no later elements
  place-more : (xs ys : List Value) (p : ℕ) → reach scan p ≤ length xs → at_place (xs ++ ys) p ≡ at_place xs p
  place-more xs ys p l =
      let count = length-map xs item in
      ap (λ items. folded op (cons_option (option_map Some init) items))
      (ap (take (reach scan p)) (map-append item xs ys) ∙ take-append-le (reach scan p) (map item xs) (map item ys) (omega (arith, l, count)))

  -- the fold of these elements
  abbrev pub fold_of : List Value → Option (Option Value)
  fold_of elements = with_items op (option_map Some init) (map item elements)

  fold-more : (xs : List Value) (x : Value) → fold_of (xs ++ x ∷ []) ≡ with_item op (fold_of xs) (item x)
  fold-more xs x = ap (with_items op (option_map Some init)) (map-append item xs (x ∷ [])) ∙ fold-append (with_item op) (option_map Some init) (map item xs) (item x ∷ [])

  own_place : (order : Scan) (xs : List Value) (x : Value) → turn_place order op item init (xs ++ x ∷ []) (length xs) ≡ next_place order op (fold_of xs) (item x)
  own_place Inclusive xs x =
      let count = length-map (xs ++ x ∷ []) item in
      let sum = length-append xs (x ∷ []) in
      ap (λ items. folded op (cons_option (option_map Some init) items)) (take_all (length xs + 1) (map item (xs ++ x ∷ [])) (omega (arith, count, sum)))
      ∙ started op init (map item (xs ++ x ∷ []))
      ∙ ap outcome_in (fold-more xs x)
  own_place Exclusive xs x =
      let count = length-map xs item in
      ap (λ items. folded op (cons_option (option_map Some init) items))
      (ap (take (length xs)) (map-append item xs (x ∷ [])) ∙ take-append-le (length xs) (map item xs) (item x ∷ []) (omega (arith, count))
      ∙ take_all (length xs) (map item xs) (omega (arith, count)))
      ∙ started op init (map item xs)

  module _ (store : Store) (source target : CellRange) where
    abbrev pub elements : ℕ → List Value
    elements = elements_in_turn at_place store source target

    -- the places that the first elements make
    abbrev pub first_places : ℕ → List (Option Value)
    first_places p = map (at_place (elements p)) (range_with_len 0 p)

    module _ (p : ℕ) (element : Value) (read : Some element ≡ slice_get (cells_in (with_places store target.array target.low (first_places p)) source.array) (source.low + p)) where
      pub element_more : elements (p + 1) ≡ elements p ++ element ∷ []
      element_more = ap elements (let e : p + 1 ≡ suc p = omega arith in e) ∙ ap (λ o. elements p ++ option_to_list o) (sym read)

      module _ (count : length (elements p) ≡ p) where
        pub count_more : length (elements (p + 1)) ≡ p + 1
        count_more = ap length element_more ∙ (let e = length-append (elements p) (element ∷ []) in omega (arith, e, count))

        pub places_more : (own : Option Value) → own ≡ next_place scan op (fold_of (elements p)) (item element) → first_places (p + 1) ≡ first_places p ++ own ∷ []
        places_more own e =
            let all = elements p ++ element ∷ [] in
            let last : at_place all p ≡ own = ap (at_place all) (sym count) ∙ own_place scan (elements p) element ∙ sym e in
            ap (λ xs. map (at_place xs) (range_with_len 0 (p + 1))) element_more
            ∙ ap (map (at_place all)) (number_more p)
            ∙ map-append (at_place all) (range_with_len 0 p) (p ∷ [])
            ∙ ap (λ xs. xs ++ at_place all p ∷ [])
            (map-range_same (at_place all) (at_place (elements p)) 0 p
            (λ q l. place-more (elements p) (element ∷ []) q (let b = reach_below scan q in omega (arith, b, l, count))))
            ∙ ap (λ o. first_places p ++ o ∷ []) last

    -- later elements come behind earlier ones
    elements-behind : (m k : ℕ) → (rest : List Value) × (elements (m + k) ≡ elements m ++ rest)
    elements-behind m zero = ([], ap elements (let e : m + zero ≡ m = omega arith in e) ∙ sym (append-nil (elements m)))
    elements-behind m (suc k) =
        let before = elements-behind m k in
        let own = option_to_list (slice_get (cells_in (with_places store target.array target.low (first_places (m + k))) source.array) (source.low + (m + k))) in (
          before.0 ++ own,
          ap elements (let e : m + suc k ≡ suc (m + k) = omega arith in e) ∙ ap (λ xs. xs ++ own) before.1 ∙ append_assoc (elements m) before.0 own,
        )

    -- a throw at one place
    pub throw_at : (p n : ℕ) → p < n → length (elements (p + 1)) ≡ p + 1 → at_place (elements (p + 1)) p ≡ None → all_given (first_places n) ≡ None
    throw_at p n l count e =
        let behind = elements-behind (p + 1) (n - (p + 1)) in
        let whole : elements n ≡ elements (p + 1) ++ behind.0 = ap elements (let h : n ≡ (p + 1) + (n - (p + 1)) = omega (arith, l) in h) ∙ behind.1 in
        let same : at_place (elements n) p ≡ None =
        ap (λ xs. at_place xs p) whole ∙ place-more (elements (p + 1)) behind.0 p (let b = reach_below scan p in omega (arith, b, count)) ∙ e in
        let size = length-map-range_with_len (at_place (elements n)) 0 n in
        given_none (first_places n) (p, omega (arith, l, size), get_or-map-range_with_len (at_place (elements n)) 0 n p p None l (omega arith) ∙ same)

    -- a place more is written
    module _ (p : ℕ) (element value : Value) (own : Option Value) (now after : Store) (written all_written : Writes)
        (stands : now ≡ with_places store target.array target.low (first_places p)) (count : length (elements p) ≡ p)
        (read : Some element ≡ slice_get (cells_in now source.array) (source.low + p)) (e : own ≡ next_place scan op (fold_of (elements p)) (item element)) where
      abbrev read_here : Some element ≡ slice_get (cells_in (with_places store target.array target.low (first_places p)) source.array) (source.low + p)
      read_here = read ∙ ap (λ s. slice_get (cells_in s source.array) (source.low + p)) stands

      pub next_count : length (elements (p + 1)) ≡ p + 1
      next_count = count_more p element read_here count

      pub next_fold : fold_of (elements (p + 1)) ≡ with_item op (fold_of (elements p)) (item element)
      next_fold = ap fold_of (element_more p element read_here) ∙ fold-more (elements p) element

      sized : length (first_places p) ≡ p
      sized = length-map-range_with_len (at_place (elements p)) 0 p

      pub next_stands : own ≡ Some value → after ≡ put_cell now target.array (target.low + p) value → after ≡ with_places store target.array target.low (first_places (p + 1))
      next_stands some put =
          put ∙ ap (λ s. put_cell s target.array (target.low + p) value) stands
          ∙ ap (λ n. put_cell (with_places store target.array target.low (first_places p)) target.array (target.low + n) value) (sym sized)
          ∙ sym (places-more store target.array target.low (first_places p) value)
          ∙ ap (λ o. with_places store target.array target.low (first_places p ++ o ∷ [])) (sym some)
          ∙ ap (with_places store target.array target.low) (sym (places_more p element read_here count own e))

      pub next_written : own ≡ Some value → PutsCell written all_written target.array (target.low + p) value
          → Puts true (all_given (first_places p)) target.array target.low [] written → Puts true (all_given (first_places (p + 1))) target.array target.low [] all_written
      next_written some cell before =
          subst (λ places. Puts true (all_given places) target.array target.low [] all_written) (sym (places_more p element read_here count own e))
          (put_both (first_places p) (own ∷ []) target.array target.low [] true written all_written before
          (put_first true own [] value target.array (target.low + length (first_places p)) written all_written all_written some
          (subst (λ n. PutsCell written all_written target.array (target.low + n) value) (sym sized) cell)
          (put_none target.array ((target.low + length (first_places p)) + 1) all_written)))

      pub thrown : (n : ℕ) → p < n → own ≡ None → all_given (first_places n) ≡ None
      thrown n l none =
          let place : at_place (elements (p + 1)) p ≡ None =
          ap (λ xs. at_place xs p) (element_more p element read_here)
          ∙ ap (at_place (elements p ++ element ∷ [])) (sym count)
          ∙ own_place scan (elements p) element ∙ sym e ∙ none in
          throw_at p n l next_count place

-- putting a value keeps the lengths of arrays
pub length-put : (store : Store) (array index : ℕ) (value : Value) (a n : ℕ) → length (cells_in store a) ≡ n → length (cells_in (put_cell store array index value) a) ≡ n
length-put store array index value a n e = (let shape : SameShape store (put_cell store array index value) = putting_keeps_shape store array index value in shape.cells a) ∙ e

-- places keep the lengths of arrays, too
length-places : (store : Store) (array index : ℕ) (places : List (Option Value)) (a : ℕ) → length (cells_in (with_places store array index places) a) ≡ length (cells_in store a)
length-places store array index [] a = refl
length-places store array index (None ∷ rest) a = length-places store array (index + 1) rest a
length-places store array index (Some v ∷ rest) a = length-places (put_cell store array index v) array (index + 1) rest a ∙ length-put store array index v a (length (cells_in store a)) refl

one_read : (xs : List Value) (index : ℕ) → index < length xs → length (option_to_list (slice_get xs index)) ≡ 1
one_read [] index l = absurd (omega (arith, l))
one_read (x ∷ xs) zero l = refl
one_read (x ∷ xs) (suc index) l = one_read xs index (omega (arith, l))

-- every element is there to be read
pub all_read : (scan : Scan) (op : Value → Value → Option Value) (item : Value → Option Value) (init : Option Value) (store : Store) (source target : CellRange) (n p : ℕ)
    → ((q : ℕ) → q < n → source.low + q < length (cells_in store source.array)) → p ≤ n → length (elements_in_turn (turn_place scan op item init) store source target p) ≡ p
all_read scan op item init store source target n zero cell l = refl
all_read scan op item init store source target n (suc p) cell l =
    let earlier = elements_in_turn (turn_place scan op item init) store source target p in
    let places = map (turn_place scan op item init earlier) (range_with_len 0 p) in
    let now = cells_in (with_places store target.array target.low places) source.array in
    let before = all_read scan op item init store source target n p cell (omega (arith, l)) in
    let size = length-places store target.array target.low places source.array in
    let here = cell p (omega (arith, l)) in
    let one = one_read now (source.low + p) (omega (arith, here, size)) in
    let sum = length-append earlier (option_to_list (slice_get now (source.low + p))) in
    omega (arith, sum, one, before)

-- ---- what is answered

-- all places are written
pub all_written : (values : Option (List Value)) (all : Bool) (array index : ℕ) (old new : Writes) → old ≡ [] → all ≡ true → Puts all values array index old new → AreWritten values array index (Some new)
all_written (Some values) true array index old new e e' h = h [] (subst (AreOf []) (sym e) no_steps)
all_written (Some values) false array index old new e e' h = absurd h
all_written None true array index old new e e' h = absurd h
all_written None false array index old new e e' h = absurd (cc)

-- or one of them is a throw
pub thrown_away : (values : Option (List Value)) (all : Bool) (array index : ℕ) (old new : Writes) → all ≡ false → Puts all values array index old new → AreWritten values array index None
thrown_away (Some values) true array index old new e h = absurd (cc)
thrown_away (Some values) false array index old new e h = absurd h
thrown_away None true array index old new e h = absurd h
thrown_away None false array index old new e h = tt

pub none_written : (values : Option (List Value)) (array index : ℕ) → values ≡ None → AreWritten values array index None
none_written values array index e = subst (λ o. AreWritten o array index None) (sym e) tt
