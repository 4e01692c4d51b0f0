-- The items of scans, and their places under each policy.
use Rattle.std.proofs.Common.{◌≡◌, ℕ, ◌+◌, ◌<◌, Bool, true, false, Option, Some, None, List, [], length, map, take, refl, sym, ap, subst, ◌∙◌, arith}
use Rattle.std.specs.List.{range_with_len, slice_get}
use Rattle.std.specs.Option.{option_map}
use Rattle.std.proofs.lemmas.List.{length-map, length-take}
use Rattle.std.proofs.lemmas.Option.{slice_get-map}
use Rattle.pts_types.specs.declared.operation.Policy.{Policy}
use Rattle.pts_types.specs.declared.operation.Policy.TheVariants as policies
use Rattle.pts_types.specs.declared.value.Value.{Value}
use Rattle.pts_code.specs.declared.function.FunctionInfo.{FunctionInfo}
use Rattle.pts_lowering.specs.declared.forms.Scan.{Scan}
use Rattle.pts_store.specs.Stores.{Store, cells_in}
use Rattle.pts_groupings.specs.Scans.{places_of}
use Rattle.pts_groupings.specs.Sums.{all_given}
use Rattle.pts_eval.specs.Cells.{range_in}
use Rattle.pts_eval.specs.Sums.{combining, elements_by, elements_in_turn, item_of, order_of, positions_in, scanned}
use Rattle.pts_store.specs.Writes.{Writes}
use Rattle.pts_sums.specs.Places.{turn_place, AreWritten, Puts}
use Rattle.pts_sums.proofs.InTurn.{all_read, all_written, thrown_away}
use Rattle.pts_elements.proofs.RangeCells.{get-take, within}

module _ (functions : List FunctionInfo) (store : Store) (call : Scan) where
  -- the elements that both ranges have
  abbrev taken : List Value
  taken = take (positions_in store call) (range_in store call.source)

  pub positions : length (map (item_of functions call.transform) taken) ≡ positions_in store call
  positions =
      let e = length-map taken (item_of functions call.transform) in
      let e' = length-take (positions_in store call) (range_in store call.source) in
      omega (arith, e, e')

  pub within_source : (at : ℕ) → at < length (map (item_of functions call.transform) taken) → at < length (range_in store call.source)
  within_source at l = let e = positions in omega (arith, e, l)

  pub scan_item : (at : ℕ) (element : Value) (item : Option Value) → at < length (map (item_of functions call.transform) taken) → Some element ≡ slice_get (range_in store call.source) at
      → item ≡ item_of functions call.transform element → Some item ≡ slice_get (map (item_of functions call.transform) taken) at
  scan_item at element item l read is =
      let e = positions in
      ap Some is ∙ ap (option_map (item_of functions call.transform)) (read ∙ sym (get-take (positions_in store call) at (range_in store call.source) (omega (arith, e, l))))
      ∙ sym (slice_get-map (item_of functions call.transform) taken at)

  shared_places : (policy : Policy) (size : ℕ) → (policy ≡ policies.Seq → ⊥)
      → places_of policy (order_of call.order) size (combining functions call.operation) call.initial (map (item_of functions call.transform) (elements_by policy functions store call))
      ≡ places_of policies.Par (order_of call.order) size (combining functions call.operation) call.initial (map (item_of functions call.transform) taken)
  shared_places policies.Seq size other = absurd (other refl)
  shared_places policies.Unseq size other = refl
  shared_places policies.Par size other = refl
  shared_places policies.ParUnseq size other = refl
  shared_places policies.Vector size other = refl

  -- under each policy but seq the places are those of chunks
  pub by_chunks : (size : ℕ) → (call.policy ≡ policies.Seq → ⊥)
      → scanned functions store size call ≡ places_of policies.Par (order_of call.order) size (combining functions call.operation) call.initial (map (item_of functions call.transform) taken)
  by_chunks size other = shared_places call.policy size other

  -- the elements that a scan under seq reads
  abbrev read : List Value
  read = elements_in_turn (turn_place (order_of call.order) (combining functions call.operation) (item_of functions call.transform) call.initial) store call.source call.target (positions_in store call)

  pub source_cell : (p : ℕ) → p < positions_in store call → call.source.low + p < length (cells_in store call.source.array)
  source_cell p l = (within store call.source p (omega (arith, l))).1

  turn_places : (policy : Policy) (size : ℕ) → policy ≡ policies.Seq
      → places_of policy (order_of call.order) size (combining functions call.operation) call.initial (map (item_of functions call.transform) (elements_by policy functions store call))
      ≡ all_given (map (turn_place (order_of call.order) (combining functions call.operation) (item_of functions call.transform) call.initial read) (range_with_len 0 (positions_in store call)))
  turn_places policy size e =
      let f = item_of functions call.transform in
      let at = turn_place (order_of call.order) (combining functions call.operation) f call.initial read in
      let count : length (map f read) ≡ positions_in store call = length-map read f
      ∙ all_read (order_of call.order) (combining functions call.operation) f call.initial store call.source call.target (positions_in store call) (positions_in store call) source_cell (omega arith) in
      ap (λ p. places_of p (order_of call.order) size (combining functions call.operation) call.initial (map f (elements_by p functions store call))) e
      ∙ ap (λ n. all_given (map at (range_with_len 0 n))) count

  -- under seq they are those of the elements that are read in index order
  pub in_turn : (size : ℕ) → call.policy ≡ policies.Seq
      → scanned functions store size call
      ≡ all_given (map (turn_place (order_of call.order) (combining functions call.operation) (item_of functions call.transform) call.initial read) (range_with_len 0 (positions_in store call)))
  in_turn size e = turn_places call.policy size e

  -- what a scan by chunks answers
  module _ (size : ℕ) (other : call.policy ≡ policies.Seq → ⊥) (all : Bool) (old new : Writes)
      (put : Puts all (places_of policies.Par (order_of call.order) size (combining functions call.operation) call.initial (map (item_of functions call.transform) taken)) call.target.array call.target.low old new) where
    pub chunks_written : old ≡ [] → all ≡ true → AreWritten (scanned functions store size call) call.target.array call.target.low (Some new)
    chunks_written none e =
        subst (λ values. AreWritten values call.target.array call.target.low (Some new)) (sym (by_chunks size other))
        (all_written (places_of policies.Par (order_of call.order) size (combining functions call.operation) call.initial (map (item_of functions call.transform) taken)) all call.target.array call.target.low old new none e put)

    pub chunks_thrown : all ≡ false → AreWritten (scanned functions store size call) call.target.array call.target.low None
    chunks_thrown e =
        subst (λ values. AreWritten values call.target.array call.target.low None) (sym (by_chunks size other))
        (thrown_away (places_of policies.Par (order_of call.order) size (combining functions call.operation) call.initial (map (item_of functions call.transform) taken)) all call.target.array call.target.low old new e put)

  -- what a scan in index order answers
  pub turns_written : (size count : ℕ) (written : Option Writes) → call.policy ≡ policies.Seq → count ≡ positions_in store call
      → AreWritten (all_given (map (turn_place (order_of call.order) (combining functions call.operation) (item_of functions call.transform) call.initial
      (elements_in_turn (turn_place (order_of call.order) (combining functions call.operation) (item_of functions call.transform) call.initial) store call.source call.target count))
      (range_with_len 0 count))) call.target.array call.target.low written
      → AreWritten (scanned functions store size call) call.target.array call.target.low written
  turns_written size count written e same h =
      subst (λ values. AreWritten values call.target.array call.target.low written) (sym (in_turn size e))
      (subst (λ n. AreWritten (all_given (map (turn_place (order_of call.order) (combining functions call.operation) (item_of functions call.transform) call.initial
      (elements_in_turn (turn_place (order_of call.order) (combining functions call.operation) (item_of functions call.transform) call.initial) store call.source call.target n))
      (range_with_len 0 n))) call.target.array call.target.low written) same h)
