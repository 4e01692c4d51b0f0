-- What the cells of a store with writes over it hold, cell by cell.
use Rattle.std.proofs.Common.{◌≡◌, ℕ, suc, zero, ◌+◌, ◌≤◌, None, List, [], ◌∷◌, length, refl, ap, ◌∙◌, sym, arith, ⊎_elim, zero-add}
use Rattle.std.specs.Prelude.{Option, slice_get}
use Rattle.std.specs.Option.{option_map}
use Rattle.std.proofs.lemmas.Bool.{cases_lt}
use Rattle.std.proofs.lemmas.Option.{slice_get_past}
use Rattle.pts_types.specs.declared.value.Value.{Value}
use Rattle.pts_store.specs.Stores.{Store, shown, cells_with, arrays_with}
use Rattle.pts_store.specs.Stretches.{Shows}
use Rattle.pts_store.proofs.Joining.{ext_slice_get}

pub slice_get-cells_with : (f : ℕ → Option Value) (cells : List Value) (k : ℕ) → slice_get (cells_with f cells) k ≡ option_map (shown (f k)) (slice_get cells k)
unfolding cells_with
slice_get-cells_with f [] k = refl
slice_get-cells_with f (x ∷ xs) zero = refl
slice_get-cells_with f (x ∷ xs) (suc k) = slice_get-cells_with (λ index. f (suc index)) xs k

pub slice_get-arrays_with : (f : ℕ → ℕ → Option Value) (store : Store) (k : ℕ) → slice_get (arrays_with f store) k ≡ option_map (cells_with (f k)) (slice_get store k)
unfolding arrays_with
slice_get-arrays_with f [] k = refl
slice_get-arrays_with f (x ∷ xs) zero = refl
slice_get-arrays_with f (x ∷ xs) (suc k) = slice_get-arrays_with (λ array. f (suc array)) xs k

pub cells_with-nothing : (f : ℕ → Option Value) → ((k : ℕ) → f k ≡ None) → (cells : List Value) → cells_with f cells ≡ cells
unfolding cells_with
cells_with-nothing f nothing [] = refl
cells_with-nothing f nothing (x ∷ xs) =
    let first : shown (f 0) x ≡ x = ap (λ o. shown o x) (nothing 0) in
    let rest : cells_with (λ index. f (suc index)) xs ≡ xs = cells_with-nothing (λ index. f (suc index)) (λ k. nothing (suc k)) xs in
    cc

-- a stretch from the front to the end is the whole
pub Shows-whole : {X W : Type 0} (shown : W → X → X) (f : ℕ → W) (size : ℕ) (old new whole : List X)
    → Shows shown f 0 size old new → length old ≤ size
    → ((k : ℕ) → slice_get whole k ≡ option_map (shown (f k)) (slice_get old k))
    → new ≡ whole
Shows-whole shown f size old new whole s all each =
    ext_slice_get new whole (λ k. ⊎_elim
    (λ here. ap (slice_get new) (sym (zero-add k)) ∙ s.inside k here ∙ ap (λ p. option_map (shown (f k)) (slice_get old p)) (zero-add k) ∙ sym (each k))
    (λ past.
    let far : 0 + size ≤ k = omega arith in
    let none : slice_get old k ≡ None = slice_get_past old k (omega arith) in
    s.behind k far ∙ none ∙ ap (option_map (shown (f k))) (sym none) ∙ sym (each k))
    (cases_lt k size))
