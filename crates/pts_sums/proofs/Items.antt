-- The items of reductions and scans, by their positions.
use Rattle.std.proofs.Common.{◌≡◌, ℕ, zero, suc, ◌<◌, min, Option, Some, None, List, [], ◌∷◌, length, map, sym, ap, subst, ◌∙◌, arith}
use Rattle.std.specs.List.{slice_get}
use Rattle.std.specs.Option.{option_map}
use Rattle.std.proofs.lemmas.List.{length-map}
use Rattle.std.proofs.lemmas.Option.{slice_get-map}
use Rattle.pts_types.specs.declared.value.Value.{Value}
use Rattle.pts_code.specs.declared.function.FunctionInfo.{FunctionInfo}
use Rattle.pts_lowering.specs.declared.forms.CellIndex.{CellIndex}
use Rattle.pts_lowering.specs.declared.forms.CellRange.{CellRange}
use Rattle.pts_lowering.specs.declared.forms.Reduction.{Reduction}
use Rattle.pts_store.specs.Steps.{AreOf}
use Rattle.pts_store.specs.Stores.{Store}
use Rattle.pts_store.specs.Writes.{Writes, PutsCell}
use Rattle.pts_store.proofs.Together.{no_steps, one_step_more}
use Rattle.pts_eval.specs.Cells.{range_in}
use Rattle.pts_eval.specs.Sums.{item_of, item_of_pair, items_by, items_in, items_of_pairs, steps_into}

-- ---- pairs

length-pairs : (functions : List FunctionInfo) (transform : Option ℕ) (xs ys : List Value) → length (items_of_pairs functions transform xs ys) ≡ min (length xs) (length ys)
length-pairs functions transform [] ys = let e : 0 ≡ min 0 (length ys) = omega arith in e
length-pairs functions transform (x ∷ xs) [] = let e : 0 ≡ min (suc (length xs)) 0 = omega arith in e
length-pairs functions transform (x ∷ xs) (y ∷ ys) =
    let e = length-pairs functions transform xs ys in
    let e' : suc (length (items_of_pairs functions transform xs ys)) ≡ min (suc (length xs)) (suc (length ys)) = omega (arith, e) in
    e'

get-pairs : (functions : List FunctionInfo) (transform : Option ℕ) (xs ys : List Value) (at : ℕ) (x y : Value) → Some x ≡ slice_get xs at → Some y ≡ slice_get ys at
    → Some (item_of_pair functions transform x y) ≡ slice_get (items_of_pairs functions transform xs ys) at
get-pairs functions transform [] ys at x y e e' = absurd (cc)
get-pairs functions transform (v ∷ xs) [] at x y e e' = absurd (cc)
get-pairs functions transform (v ∷ xs) (w ∷ ys) zero x y e e' =
    let same : x ≡ v = cc in
    let same' : y ≡ w = cc in
    ap (λ z. Some (item_of_pair functions transform z y)) same ∙ ap (λ z. Some (item_of_pair functions transform v z)) same'
get-pairs functions transform (v ∷ xs) (w ∷ ys) (suc at) x y e e' = get-pairs functions transform xs ys at x y e e'

-- ---- reductions

module _ (functions : List FunctionInfo) (store : Store) (call : Reduction) where
  one_range : call.second ≡ None → items_in functions store call ≡ map (item_of functions call.transform) (range_in store call.first)
  one_range e = ap (λ second. items_by second functions store call) e

  two_ranges : (second : CellRange) → call.second ≡ Some second → items_in functions store call ≡ items_of_pairs functions call.transform (range_in store call.first) (range_in store second)
  two_ranges second e = ap (λ second. items_by second functions store call) e

  pub count_one : call.second ≡ None → length (items_in functions store call) ≡ length (range_in store call.first)
  count_one e = ap length (one_range e) ∙ length-map (range_in store call.first) (item_of functions call.transform)

  pub count_two : (second : CellRange) → call.second ≡ Some second → length (items_in functions store call) ≡ min (length (range_in store call.first)) (length (range_in store second))
  count_two second e = ap length (two_ranges second e) ∙ length-pairs functions call.transform (range_in store call.first) (range_in store second)

  pub within_one : (at : ℕ) → call.second ≡ None → at < length (items_in functions store call) → at < length (range_in store call.first)
  within_one at e l = let count = count_one e in omega (arith, count, l)

  pub within_first : (second : CellRange) (at : ℕ) → call.second ≡ Some second → at < length (items_in functions store call) → at < length (range_in store call.first)
  within_first second at e l = let count = count_two second e in omega (arith, count, l)

  pub within_second : (second : CellRange) (at : ℕ) → call.second ≡ Some second → at < length (items_in functions store call) → at < length (range_in store second)
  within_second second at e l = let count = count_two second e in omega (arith, count, l)

  pub one_item : (at : ℕ) (element : Value) (item : Option Value) → call.second ≡ None → Some element ≡ slice_get (range_in store call.first) at
      → item ≡ item_of functions call.transform element → Some item ≡ slice_get (items_in functions store call) at
  one_item at element item e read is =
      ap Some is ∙ ap (option_map (item_of functions call.transform)) read
      ∙ sym (slice_get-map (item_of functions call.transform) (range_in store call.first) at) ∙ ap (λ xs. slice_get xs at) (sym (one_range e))

  pub two_item : (second : CellRange) (at : ℕ) (x y : Value) (item : Option Value) → call.second ≡ Some second → Some x ≡ slice_get (range_in store call.first) at
      → Some y ≡ slice_get (range_in store second) at → item ≡ item_of_pair functions call.transform x y → Some item ≡ slice_get (items_in functions store call) at
  two_item second at x y item e read read' is =
      ap Some is ∙ get-pairs functions call.transform (range_in store call.first) (range_in store second) at x y read read' ∙ ap (λ xs. slice_get xs at) (sym (two_ranges second e))

-- ---- what a reduction writes
