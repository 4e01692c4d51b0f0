-- The cells of a range.
use Rattle.std.proofs.Common.{◌≡◌, ℕ, zero, suc, ◌+◌, ◌-◌, ◌<◌, min, Some, None, List, [], ◌∷◌, length, take, drop, refl, sym, ap, ◌∙◌, arith}
use Rattle.std.specs.List.{slice_get}
use Rattle.std.proofs.lemmas.List.{length-drop, length-take}
use Rattle.pts_types.specs.declared.value.Value.{Value}
use Rattle.pts_lowering.specs.declared.forms.CellRange.{CellRange}
use Rattle.pts_program.specs.declared.info.ArrayInfo.{ArrayInfo}
use Rattle.pts_store.specs.Laws.{SameShape}
use Rattle.pts_store.specs.Stores.{Store, cells_in}
use Rattle.pts_eval.specs.Cells.{range_in, start_cells}

-- ---- arrays

pub no_array : (arrays : List ArrayInfo) (array : ℕ) → slice_get arrays array ≡ None → length (cells_in (start_cells arrays) array) ≡ 0
no_array [] array e = refl
no_array (a ∷ as') zero e = absurd (cc)
no_array (a ∷ as') (suc n) e = no_array as' n e

pub an_array : (arrays : List ArrayInfo) (array : ℕ) (info : ArrayInfo) → slice_get arrays array ≡ Some info → length (cells_in (start_cells arrays) array) ≡ length info.cells
an_array [] array info e = absurd (cc)
an_array (a ∷ as') zero info e = ap (λ (b : ArrayInfo). length b.cells) (let same : a ≡ info = cc in same)
an_array (a ∷ as') (suc n) info e = an_array as' n info e

-- ---- ranges

pub length-range : (store : Store) (range : CellRange) → length (range_in store range) ≡ min (range.high - range.low) (length (cells_in store range.array) - range.low)
length-range store range =
    length-take (range.high - range.low) (drop range.low (cells_in store range.array)) ∙ ap (min (range.high - range.low)) (length-drop range.low (cells_in store range.array))

pub counted : (old store : Store) (range : CellRange) (count : ℕ) → SameShape old store → count ≡ min (length (cells_in old range.array)) range.high - range.low
    → count ≡ length (range_in store range)
counted old store range count shape e = let same = shape.cells range.array in let len = length-range store range in omega (arith, e, same, len)

pub within : (store : Store) (range : CellRange) (at : ℕ) → at < length (range_in store range)
    → (range.low + at < range.high) × (range.low + at < length (cells_in store range.array))
within store range at l = let len = length-range store range in (omega (arith, l, len), omega (arith, l, len))

get-drop : {A : Type 0} (k at : ℕ) (xs : List A) → slice_get (drop k xs) at ≡ slice_get xs (k + at)
get-drop zero at xs = ap (slice_get xs) (let e : at ≡ zero + at = omega arith in e)
get-drop (suc k) at [] = refl
get-drop (suc k) at (x ∷ xs) = get-drop k at xs ∙ ap (slice_get (x ∷ xs)) (let e : suc (k + at) ≡ suc k + at = omega arith in e)

pub get-take : {A : Type 0} (k at : ℕ) (xs : List A) → at < k → slice_get (take k xs) at ≡ slice_get xs at
get-take zero at xs l = absurd (omega (arith, l))
get-take (suc k) at [] l = refl
get-take (suc k) zero (x ∷ xs) l = refl
get-take (suc k) (suc at) (x ∷ xs) l = get-take k at xs (omega (arith, l))

pub element : (store : Store) (range : CellRange) (at : ℕ) (index : ℕ) (value : Value) → at < length (range_in store range) → index ≡ range.low + at
    → Some value ≡ slice_get (cells_in store range.array) index → Some value ≡ slice_get (range_in store range) at
element store range at index value l e is =
    let len = length-range store range in
    is ∙ ap (slice_get (cells_in store range.array)) e ∙ sym (get-drop range.low at (cells_in store range.array))
    ∙ sym (get-take (range.high - range.low) at (drop range.low (cells_in store range.array)) (omega (arith, l, len)))
