-- The places of a chunk, by the fold that comes to it.
use Rattle.std.proofs.Common.{◌≡◌, ℕ, zero, suc, ◌+◌, ◌-◌, ◌*◌, ◌/◌, ◌<◌, min, Option, Some, None, List, [], ◌∷◌, ◌++◌, length, map, take, drop, refl, sym, ap, ◌∙◌, arith}
use Rattle.std.specs.List.{cons_option, range_with_len}
use Rattle.std.specs.Option.{option_map}
use Rattle.std.proofs.lemmas.Grind.{fold-append}
use Rattle.std.proofs.lemmas.List.{length-drop, length-take, map-append}
use Rattle.std.proofs.lemmas.Nat.{div-mul-add, mod-mul-add}
use Rattle.pts_types.specs.declared.operation.Policy.TheVariants.{Par}
use Rattle.pts_groupings.specs.Chunks.{chunk}
use Rattle.pts_groupings.specs.Scans.{Scan, Inclusive, Exclusive, reach, place}
use Rattle.pts_groupings.specs.Sums.{all_given, folded}
use Rattle.pts_groupings.proofs.Places.{map-range_same}
use Rattle.pts_sums.specs.Folds.{with_item, with_items, outcome_in}
use Rattle.pts_sums.specs.Places.{outcomes_after, places_after, start_of}
use Rattle.pts_sums.proofs.GroupFolds.{begun, folded_as}
use Rattle.pts_elements.proofs.Singles.{number_more}

-- ---- numbers in a row

-- a row from a on is one from 0 on, moved by a
moved_row : {A : Type 0} (f : ℕ → A) (a b n : ℕ) → map f (range_with_len (a + b) n) ≡ map (λ k. f (a + k)) (range_with_len b n)
moved_row f a b zero = refl
moved_row f a b (suc n) =
    ap (λ l. f (a + b) ∷ l) (ap (λ k. map f (range_with_len k n)) (let e : (a + b) + 1 ≡ a + (b + 1) = omega arith in e) ∙ moved_row f a (b + 1) n)

row_from : {A : Type 0} (f : ℕ → A) (a n : ℕ) → map f (range_with_len a n) ≡ map (λ k. f (a + k)) (range_with_len 0 n)
row_from f a n = ap (λ k. map f (range_with_len k n)) (let e : a ≡ a + 0 = omega arith in e) ∙ moved_row f a 0 n

drop_row : {A : Type 0} (f : ℕ → A) (k a n : ℕ) → drop k (map f (range_with_len a n)) ≡ map f (range_with_len (a + k) (n - k))
drop_row f zero a n =
    ap (λ b. map f (range_with_len b n)) (let e : a ≡ a + zero = omega arith in e)
    ∙ ap (λ m. map f (range_with_len (a + zero) m)) (let e : n ≡ n - zero = omega arith in e)
drop_row f (suc k) a zero = ap (λ m. map f (range_with_len (a + suc k) m)) (let e : zero ≡ zero - suc k = omega arith in e)
drop_row f (suc k) a (suc n) =
    drop_row f k (a + 1) n
    ∙ ap (λ b. map f (range_with_len b (n - k))) (let e : (a + 1) + k ≡ a + suc k = omega arith in e)
    ∙ ap (λ m. map f (range_with_len (a + suc k) m)) (let e : n - k ≡ suc n - suc k = omega arith in e)

take_row : {A : Type 0} (f : ℕ → A) (k a n : ℕ) → take k (map f (range_with_len a n)) ≡ map f (range_with_len a (min k n))
take_row f zero a n = ap (λ m. map f (range_with_len a m)) (let e : zero ≡ min zero n = omega arith in e)
take_row f (suc k) a zero = ap (λ m. map f (range_with_len a m)) (let e : zero ≡ min (suc k) zero = omega arith in e)
take_row f (suc k) a (suc n) =
    ap (λ l. f a ∷ l) (take_row f k (a + 1) n) ∙ ap (λ m. map f (range_with_len a m)) (let e : suc (min k n) ≡ min (suc k) (suc n) = omega arith in e)

-- a chunk of what a function gives for the numbers below n
chunk_row : {A : Type 0} (f : ℕ → A) (size n c : ℕ) → chunk size (map f (range_with_len 0 n)) c ≡ map (λ k. f (c * size + k)) (range_with_len 0 (min size (n - c * size)))
chunk_row f size n c =
    ap (take size) (drop_row f (c * size) 0 n ∙ ap (λ k. map f (range_with_len k (n - c * size))) (let e : 0 + c * size ≡ c * size = omega arith in e))
    ∙ take_row f size (c * size) (n - c * size)
    ∙ row_from f (c * size) (min size (n - c * size))

-- ---- outcomes by their positions

module _ {V : Type 0} (op : V → V → Option V) where
  -- the outcome behind these first items
  abbrev after_first : Option (Option V) → List (Option V) → ℕ → Option V
  after_first so_far items k = outcome_in (with_items op so_far (take k items))

  outcomes_row : (so_far : Option (Option V)) (items : List (Option V)) → outcomes_after op so_far items ≡ map (λ k. after_first so_far items (k + 1)) (range_with_len 0 (length items))
  outcomes_row so_far [] = refl
  outcomes_row so_far (x ∷ xs) =
      ap (λ l. outcome_in (with_item op so_far x) ∷ l)
      (outcomes_row (with_item op so_far x) xs
      ∙ map-range_same (λ k. after_first (with_item op so_far x) xs (k + 1)) (λ k. after_first so_far (x ∷ xs) ((1 + k) + 1)) 0 (length xs)
      (λ k l. ap (after_first so_far (x ∷ xs)) (let e : suc (k + 1) ≡ (1 + k) + 1 = omega arith in e))
      ∙ sym (row_from (λ k. after_first so_far (x ∷ xs) (k + 1)) 1 (length xs)))

  places_row : (scan : Scan) (so_far : Option (Option V)) (items : List (Option V))
      → places_after scan op so_far items ≡ map (λ k. after_first so_far items (reach scan k)) (range_with_len 0 (length items))
  places_row Inclusive so_far items = outcomes_row so_far items
  places_row Exclusive so_far items =
      let n = length items in
      let at = after_first so_far items in
      ap (λ l. take n (outcome_in so_far ∷ l))
      (outcomes_row so_far items
      ∙ map-range_same (λ k. at (k + 1)) (λ k. at (1 + k)) 0 n (λ k l. ap at (let e : k + 1 ≡ 1 + k = omega arith in e))
      ∙ sym (row_from at 1 n))
      ∙ take_row at n 0 (suc n) ∙ ap (λ m. map at (range_with_len 0 m)) (let e : min n (suc n) ≡ n = omega arith in e)

  -- ---- places

  pub started : (init : Option V) (items : List (Option V)) → folded op (cons_option (option_map Some init) items) ≡ outcome_in (with_items op (option_map Some init) items)
  started None items = folded_as op items
  started (Some v) items = sym (ap outcome_in (begun op (Some v) items))

  module _ (scan : Scan) (size : ℕ) (init : Option V) (items : List (Option V)) where
    one_place : (c r : ℕ) → r < size → after_first (start_of op size init items c) (chunk size items c) (reach scan r) ≡ place Par scan size op init items (c * size + r)
    one_place c r l =
        let parts = map (λ earlier. folded op (chunk size items earlier)) in
        sym (ap outcome_in (fold-append (with_item op) (option_map Some init) (parts (range_with_len 0 c)) (take (reach scan r) (chunk size items c))))
        ∙ sym (started init (parts (range_with_len 0 c) ++ take (reach scan r) (chunk size items c)))
        ∙ ap (λ q. folded op (cons_option (option_map Some init) (parts (range_with_len 0 q) ++ take (reach scan r) (chunk size items q)))) (sym (div-mul-add c size r l))
        ∙ ap (λ m. folded op (cons_option (option_map Some init) (parts (range_with_len 0 ((c * size + r) / size)) ++ take (reach scan m) (chunk size items ((c * size + r) / size))))) (sym (mod-mul-add c size r l))

    -- the places that a fold gives from the start of a chunk on are the chunk's
    pub chunk_places : (c : ℕ) → places_after scan op (start_of op size init items c) (chunk size items c)
        ≡ chunk size (map (place Par scan size op init items) (range_with_len 0 (length items))) c
    chunk_places c =
        let m = min size (length items - c * size) in
        let count : length (chunk size items c) ≡ m = length-take size (drop (c * size) items) ∙ ap (min size) (length-drop (c * size) items) in
        places_row scan (start_of op size init items c) (chunk size items c)
        ∙ ap (λ n. map (λ k. after_first (start_of op size init items c) (chunk size items c) (reach scan k)) (range_with_len 0 n)) count
        ∙ map-range_same (λ k. after_first (start_of op size init items c) (chunk size items c) (reach scan k)) (λ k. place Par scan size op init items (c * size + k)) 0 m
        (λ k l. one_place c k (omega (arith, l)))
        ∙ sym (chunk_row (place Par scan size op init items) size (length items) c)

    -- the start of the next chunk
    pub start_more : (c : ℕ) → start_of op size init items (c + 1) ≡ with_item op (start_of op size init items c) (folded op (chunk size items c))
    start_more c =
        let part = λ (earlier : ℕ). folded op (chunk size items earlier) in
        ap (λ numbers. with_items op (option_map Some init) (map part numbers)) (number_more c)
        ∙ ap (with_items op (option_map Some init)) (map-append part (range_with_len 0 c) (c ∷ []))
        ∙ fold-append (with_item op) (option_map Some init) (map part (range_with_len 0 c)) (part c ∷ [])

    -- what is written of a chunk is a chunk of the places
    pub own_places : (start : Option (Option V)) (c : ℕ) → start ≡ start_of op size init items c
        → all_given (places_after scan op start (chunk size items c)) ≡ all_given (chunk size (map (place Par scan size op init items) (range_with_len 0 (length items))) c)
    own_places start c e = ap (λ s. all_given (places_after scan op s (chunk size items c))) e ∙ ap all_given (chunk_places c)
