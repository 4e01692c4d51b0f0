-- Places that are written, one after another.
use Rattle.std.proofs.Common.{◌≡◌, ℕ, zero, suc, ◌+◌, ◌-◌, ◌*◌, ◌<◌, ◌≤◌, Bool, true, false, min, Option, Some, None, List, [], ◌∷◌, ◌++◌, length, map, take, drop, ⊎_elim, refl, sym, ap, subst, ◌∙◌, append_assoc, arith}
use Rattle.std.specs.List.{slice_get, Contains}
use Rattle.std.specs.Option.{option_map}
use Rattle.std.proofs.lemmas.Bool.{cases_lt}
use Rattle.std.proofs.lemmas.List.Elements.{Contains-append_left}
use Rattle.std.proofs.lemmas.List.{append-nil, drop-drop, drop_all, length-drop, length-map, length-take, take-append-drop, take-take}
use Rattle.pts_types.specs.declared.value.Value.{Value}
use Rattle.pts_store.specs.Steps.{Step, AreOf}
use Rattle.pts_store.specs.Writes.{Writes, PutsCell}
use Rattle.pts_store.proofs.Together.{one_step_more}
use Rattle.pts_groupings.specs.Scans.{Exclusive}
use Rattle.pts_groupings.specs.Sums.{all_given, with_values}
use Rattle.pts_groupings.specs.Chunks.{chunk}
use Rattle.pts_groupings.proofs.Scans.{given_values}
use Rattle.pts_groupings.proofs.Throws.{Items, Values, Throws, given_none, items_of}
use Rattle.pts_sums.specs.Folds.{with_item, outcome_in}
use Rattle.pts_sums.specs.Places.{outcomes_after, places_after, PutsSteps, Puts}
use Rattle.pts_eval.specs.Sums.{steps_from}
use Rattle.pts_sums.proofs.Stretches.{item_more}

-- nothing more
pub put_none : (array index : ℕ) (writes : Writes) → Puts true (all_given []) array index writes writes
put_none array index writes = λ earlier are. subst (λ steps. AreOf steps writes) (sym (append-nil earlier)) are

-- one value, and then others
first_put : (all : Bool) (rest : Option (List Value)) (value : Value) (array index : ℕ) (old mid new : Writes) → PutsCell old mid array index value
    → Puts all rest array (index + 1) mid new → Puts all (with_values (Some value) rest) array index old new
first_put true (Some values) value array index old mid new cell more =
    λ earlier are.
    let step : Step = record { array = array; index = index; value = value } in
    let joined : (earlier ++ step ∷ []) ++ steps_from array (index + 1) values ≡ earlier ++ (step ∷ steps_from array (index + 1) values) = simp append_assoc in
    subst (λ steps. AreOf steps new) joined (more (earlier ++ step ∷ []) (one_step_more earlier old mid array index value are cell))
first_put true None value array index old mid new cell more = more
first_put false (Some values) value array index old mid new cell more = more
first_put false None value array index old mid new cell more = more

pub put_first : (all : Bool) (outcome : Option Value) (rest : List (Option Value)) (value : Value) (array index : ℕ) (old mid new : Writes) → outcome ≡ Some value
    → PutsCell old mid array index value → Puts all (all_given rest) array (index + 1) mid new → Puts all (all_given (outcome ∷ rest)) array index old new
put_first all outcome rest value array index old mid new e cell more =
    subst (λ o. Puts all (with_values o (all_given rest)) array index old new) (sym e) (first_put all (all_given rest) value array index old mid new cell more)

-- a throw
pub put_throw : (outcome : Option Value) (rest : List (Option Value)) (array index : ℕ) (old new : Writes) → outcome ≡ None
    → Puts false (all_given (outcome ∷ rest)) array index old new
put_throw outcome rest array index old new e = subst (λ o. Puts false (with_values o (all_given rest)) array index old new) (sym e) tt

-- ---- the outcomes of a fold

module _ (op : Value → Value → Option Value) (items : List (Option Value)) (end : ℕ) where
  -- the outcomes from a position on
  abbrev pub outcomes_from : Option (Option Value) → ℕ → Option (List Value)
  outcomes_from so_far at = all_given (outcomes_after op so_far (take (end - at) (drop at items)))

  module _ (so_far next : Option (Option Value)) (at : ℕ) (item outcome : Option Value) (is : Some item ≡ slice_get items at) (l : at < end) (e : next ≡ with_item op so_far item) (e' : outcome ≡ outcome_in next) where
    one_more : outcomes_after op so_far (take (end - at) (drop at items)) ≡ outcome ∷ outcomes_after op next (take (end - (at + 1)) (drop (at + 1) items))
    one_more =
        let rest = take (end - (at + 1)) (drop (at + 1) items) in
        ap (outcomes_after op so_far) (item_more items at end item is l)
        ∙ ap (λ s. outcome_in s ∷ outcomes_after op s rest) (sym e)
        ∙ ap (λ o. o ∷ outcomes_after op next rest) (sym e')

    pub put_item : (all : Bool) (value : Value) (array index after : ℕ) (old mid new : Writes) → outcome ≡ Some value → PutsCell old mid array index value
        → after ≡ index + 1 → Puts all (outcomes_from next (at + 1)) array after mid new → Puts all (outcomes_from so_far at) array index old new
    put_item all value array index after old mid new is_value cell moved more =
        subst (λ outcomes. Puts all (all_given outcomes) array index old new) (sym one_more)
        (put_first all outcome (outcomes_after op next (take (end - (at + 1)) (drop (at + 1) items))) value array index old mid new is_value cell
        (subst (λ i. Puts all (outcomes_from next (at + 1)) array i mid new) moved more))

    pub throw_item : (array index : ℕ) (old new : Writes) → outcome ≡ None → Puts false (outcomes_from so_far at) array index old new
    throw_item array index old new none =
        subst (λ outcomes. Puts false (all_given outcomes) array index old new) (sym one_more)
        (put_throw outcome (outcomes_after op next (take (end - (at + 1)) (drop (at + 1) items))) array index old new none)

  pub put_done : (so_far : Option (Option Value)) (at array index : ℕ) (writes : Writes) → end ≤ at → Puts true (outcomes_from so_far at) array index writes writes
  put_done so_far at array index writes l =
      let none : end - at ≡ 0 = omega arith in
      subst (λ n. Puts true (all_given (outcomes_after op so_far (take n (drop at items)))) array index writes writes) (sym none) (put_none array index writes)

  pub put_begun : (all : Bool) (so_far : Option (Option Value)) (at array index : ℕ) (old new : Writes) → Puts all (outcomes_from so_far at) array (index + (at - at)) old new
      → Puts all (outcomes_from so_far at) array index old new
  put_begun all so_far at array index old new h =
      subst (λ i. Puts all (outcomes_from so_far at) array i old new) (let e : index + (at - at) ≡ index = omega arith in e) h

-- ---- places that end before their own items

outcomes-take : (op : Value → Value → Option Value) (so_far : Option (Option Value)) (k : ℕ) (items : List (Option Value)) → take k (outcomes_after op so_far items) ≡ outcomes_after op so_far (take k items)
outcomes-take op so_far zero items = refl
outcomes-take op so_far (suc k) [] = refl
outcomes-take op so_far (suc k) (x ∷ xs) = ap (λ l. outcome_in (with_item op so_far x) ∷ l) (outcomes-take op (with_item op so_far x) k xs)

module _ (op : Value → Value → Option Value) (items : List (Option Value)) (so_far : Option (Option Value)) (start end : ℕ) (l : start < end) (within : end ≤ length items) where
  shifted : places_after Exclusive op so_far (take (end - start) (drop start items)) ≡ outcome_in so_far ∷ outcomes_after op so_far (take ((end - 1) - start) (drop start items))
  shifted =
      let k = (end - 1) - start in
      let count : end - start ≡ suc k = omega arith in
      let size : length (take (end - start) (drop start items)) ≡ suc k = (let e = length-take (end - start) (drop start items) in let e' = length-drop start items in omega (arith, e, e')) in
      ap (λ n. take n (outcome_in so_far ∷ outcomes_after op so_far (take (end - start) (drop start items)))) size
      ∙ ap (λ l. outcome_in so_far ∷ l)
      (outcomes-take op so_far k (take (end - start) (drop start items))
      ∙ ap (outcomes_after op so_far) (take-take k (end - start) (drop start items) (omega arith)))

  pub put_shifted : (all : Bool) (outcome : Option Value) (value : Value) (array index after : ℕ) (old mid new : Writes) → outcome ≡ outcome_in so_far → outcome ≡ Some value → PutsCell old mid array index value
      → after ≡ index + 1 → Puts all (all_given (outcomes_after op so_far (take ((end - 1) - start) (drop start items)))) array after mid new
      → Puts all (all_given (places_after Exclusive op so_far (take (end - start) (drop start items)))) array index old new
  put_shifted all outcome value array index after old mid new e e' cell moved more =
      subst (λ outcomes. Puts all (all_given outcomes) array index old new) (sym shifted)
      (put_first all (outcome_in so_far) (outcomes_after op so_far (take ((end - 1) - start) (drop start items))) value array index old mid new (sym e ∙ e') cell
      (subst (λ i. Puts all (all_given (outcomes_after op so_far (take ((end - 1) - start) (drop start items)))) array i mid new) moved more))

  pub throw_shifted : (outcome : Option Value) (array index : ℕ) (old new : Writes) → outcome ≡ outcome_in so_far → outcome ≡ None
      → Puts false (all_given (places_after Exclusive op so_far (take (end - start) (drop start items)))) array index old new
  throw_shifted outcome array index old new e e' =
      subst (λ outcomes. Puts false (all_given outcomes) array index old new) (sym shifted)
      (put_throw (outcome_in so_far) (outcomes_after op so_far (take ((end - 1) - start) (drop start items))) array index old new (sym e ∙ e'))

pub none_shifted : (op : Value → Value → Option Value) (items : List (Option Value)) (so_far : Option (Option Value)) (start end array index : ℕ) (writes : Writes) → end ≤ start
    → Puts true (all_given (places_after Exclusive op so_far (take (end - start) (drop start items)))) array index writes writes
none_shifted op items so_far start end array index writes l =
    let none : end - start ≡ 0 = omega arith in
    subst (λ n. Puts true (all_given (places_after Exclusive op so_far (take n (drop start items)))) array index writes writes) (sym none) (put_none array index writes)

-- ---- places behind places

steps-append : (array index : ℕ) (xs ys : List Value) → steps_from array index (xs ++ ys) ≡ steps_from array index xs ++ steps_from array (index + length xs) ys
steps-append array index [] ys = ap (λ i. steps_from array i ys) (let e : index ≡ index + 0 = omega arith in e)
steps-append array index (x ∷ xs) ys =
    let step : Step = record { array = array; index = index; value = x } in
    ap (λ l. step ∷ l)
    (steps-append array (index + 1) xs ys
    ∙ ap (λ i. steps_from array (index + 1) xs ++ steps_from array i ys) (let e : (index + 1) + length xs ≡ index + suc (length xs) = omega arith in e))

behind_none : (rest : Option (List Value)) → rest ≡ option_map (λ ws. [] ++ ws) rest
behind_none None = refl
behind_none (Some ws) = refl

behind_more : (v : Value) (vs : List Value) (rest : Option (List Value)) → option_map (λ l. v ∷ l) (option_map (λ ws. vs ++ ws) rest) ≡ option_map (λ ws. (v ∷ vs) ++ ws) rest
behind_more v vs None = refl
behind_more v vs (Some ws) = refl

values_behind : (vs : List Value) (ys : List (Option Value)) → all_given (map Some vs ++ ys) ≡ option_map (λ ws. vs ++ ws) (all_given ys)
values_behind [] ys = behind_none (all_given ys)
values_behind (v ∷ vs) ys = ap (option_map (λ l. v ∷ l)) (values_behind vs ys) ∙ behind_more v vs (all_given ys)

put_rest : (all : Bool) (rest : Option (List Value)) (vs : List Value) (array index : ℕ) (old mid new : Writes) → PutsSteps old mid (steps_from array index vs)
    → Puts all rest array (index + length vs) mid new → Puts all (option_map (λ ws. vs ++ ws) rest) array index old new
put_rest true (Some ws) vs array index old mid new first more =
    λ earlier are.
    let joined : (earlier ++ steps_from array index vs) ++ steps_from array (index + length vs) ws ≡ earlier ++ steps_from array index (vs ++ ws) =
    append_assoc earlier (steps_from array index vs) (steps_from array (index + length vs) ws) ∙ ap (λ l. earlier ++ l) (sym (steps-append array index vs ws)) in
    subst (λ steps. AreOf steps new) joined (more (earlier ++ steps_from array index vs) (first earlier are))
put_rest true None vs array index old mid new first more = more
put_rest false (Some ws) vs array index old mid new first more = more
put_rest false None vs array index old mid new first more = more

throw_in : (xs : List (Option Value)) → all_given xs ≡ None → Items xs → Contains xs None
throw_in xs e (Values vs same given) = absurd (let some = given in cc)
throw_in xs e (Throws h given) = h

module _ (xs ys : List (Option Value)) (array index : ℕ) (old : Writes) where
  both_put : (given : Option (List Value)) (all : Bool) (mid new : Writes) → all_given xs ≡ given → Puts true given array index old mid
      → Puts all (all_given ys) array (index + length xs) mid new → Puts all (all_given (xs ++ ys)) array index old new
  both_put None all mid new e first more = absurd first
  both_put (Some vs) all mid new e first more =
      let same : xs ≡ map Some vs = given_values xs vs e (items_of xs) in
      let count : length xs ≡ length vs = ap length same ∙ length-map vs Some in
      let whole : all_given (xs ++ ys) ≡ option_map (λ ws. vs ++ ws) (all_given ys) = ap (λ l. all_given (l ++ ys)) same ∙ values_behind vs ys in
      subst (λ values. Puts all values array index old new) (sym whole)
      (put_rest all (all_given ys) vs array index old mid new first (subst (λ n. Puts all (all_given ys) array (index + n) mid new) count more))

  throw_first : (given : Option (List Value)) (mid new : Writes) → all_given xs ≡ given → Puts false given array index old mid → Puts false (all_given (xs ++ ys)) array index old new
  throw_first (Some vs) mid new e first = absurd first
  throw_first None mid new e first =
      let none : all_given (xs ++ ys) ≡ None = given_none (xs ++ ys) (Contains-append_left xs ys None (throw_in xs e (items_of xs))) in
      subst (λ values. Puts false values array index old new) (sym none) tt

  -- some places, and then others
  pub put_both : (all : Bool) (mid new : Writes) → Puts true (all_given xs) array index old mid → Puts all (all_given ys) array (index + length xs) mid new
      → Puts all (all_given (xs ++ ys)) array index old new
  put_both all mid new first more = both_put (all_given xs) all mid new refl first more

  -- a throw among the first ones
  pub throw_both : (mid new : Writes) → Puts false (all_given xs) array index old mid → Puts false (all_given (xs ++ ys)) array index old new
  throw_both mid new first = throw_first (all_given xs) mid new refl first

nothing_left : (all : Bool) (array i j : ℕ) (old new : Writes) → Puts all (Some []) array i old new → Puts all (Some []) array j old new
nothing_left true array i j old new h = h
nothing_left false array i j old new h = h

-- behind the last place it does not matter where the next one would be
left_at : (all : Bool) (places : List (Option Value)) (array first k : ℕ) (old new : Writes) → Puts all (all_given (drop k places)) array (first + k) old new
    → Puts all (all_given (drop k places)) array (first + min k (length places)) old new
left_at all places array first k old new h =
    ⊎_elim (λ (l : length places < k).
    let none : drop k places ≡ [] = drop_all k places (omega (arith, l)) in
    subst (λ xs. Puts all (all_given xs) array (first + min k (length places)) old new) (sym none)
    (nothing_left all array (first + k) (first + min k (length places)) old new (subst (λ xs. Puts all (all_given xs) array (first + k) old new) none h)))
    (λ (l : k ≤ length places).
    subst (λ i. Puts all (all_given (drop k places)) array i old new) (let e : first + k ≡ first + min k (length places) = omega (arith, l) in e) h)
    (cases_lt (length places) k)

-- ---- places chunk by chunk

module _ (places : List (Option Value)) (size c array first : ℕ) (within : c * size < length places) where
  parted : drop (c * size) places ≡ chunk size places c ++ drop ((c + 1) * size) places
  parted =
      sym (take-append-drop size (drop (c * size) places))
      ∙ ap (λ l. chunk size places c ++ l) (drop-drop size (c * size) places ∙ ap (λ n. drop n places) (let e : c * size + size ≡ (c + 1) * size = omega arith in e))

  chunk_index : first + min (c * size) (length places) ≡ first + c * size
  chunk_index = omega (arith, within)

  behind_index : first + min ((c + 1) * size) (length places) ≡ (first + c * size) + length (chunk size places c)
  behind_index =
      let e = length-take size (drop (c * size) places) in
      let e' = length-drop (c * size) places in
      let e'' : (c + 1) * size ≡ c * size + size = omega arith in
      omega (arith, within, e, e', e'')

  -- a chunk more
  pub put_chunk : (all : Bool) (old mid new : Writes) → Puts true (all_given (chunk size places c)) array (first + min (c * size) (length places)) old mid
      → Puts all (all_given (drop ((c + 1) * size) places)) array (first + (c + 1) * size) mid new
      → Puts all (all_given (drop (c * size) places)) array (first + c * size) old new
  put_chunk all old mid new own more =
      subst (λ xs. Puts all (all_given xs) array (first + c * size) old new) (sym parted)
      (put_both (chunk size places c) (drop ((c + 1) * size) places) array (first + c * size) old all mid new
      (subst (λ i. Puts true (all_given (chunk size places c)) array i old mid) chunk_index own)
      (subst (λ i. Puts all (all_given (drop ((c + 1) * size) places)) array i mid new) behind_index
      (left_at all places array first ((c + 1) * size) mid new more)))

  -- a chunk with a throw
  pub throw_chunk : (old mid new : Writes) → Puts false (all_given (chunk size places c)) array (first + min (c * size) (length places)) old mid
      → Puts false (all_given (drop (c * size) places)) array (first + c * size) old new
  throw_chunk old mid new own =
      subst (λ xs. Puts false (all_given xs) array (first + c * size) old new) (sym parted)
      (throw_both (chunk size places c) (drop ((c + 1) * size) places) array (first + c * size) old mid new
      (subst (λ i. Puts false (all_given (chunk size places c)) array i old mid) chunk_index own))

pub put_all : (places : List (Option Value)) (k array index : ℕ) (writes : Writes) → length places ≤ k → Puts true (all_given (drop k places)) array index writes writes
put_all places k array index writes l = subst (λ xs. Puts true (all_given xs) array index writes writes) (sym (drop_all k places l)) (put_none array index writes)

pub put_at_first : (all : Bool) (places : List (Option Value)) (array first n : ℕ) (old new : Writes) → n ≡ 0 → Puts all (all_given (drop n places)) array (first + n) old new
    → Puts all (all_given places) array first old new
put_at_first all places array first n old new e h =
    subst (λ i. Puts all (all_given places) array i old new) (let e' : first + 0 ≡ first = omega arith in e')
    (subst (λ k. Puts all (all_given (drop k places)) array (first + k) old new) e h)
