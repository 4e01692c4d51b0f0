-- What an overlay shows at a cell, and what it stands for after a call, where it stands for `store` with `writes` over it.
use Rattle.std.proofs.Common.{◌≡◌, ℕ, Option, Some, None, Result, Ok, Err, length, get_or, refl, ap, ◌∙◌, sym, arith}
use Rattle.std.specs.Prelude.{OnOk, OnErr, slice_get}
use Rattle.std.specs.Option.{option_map}
use Rattle.std.proofs.lemmas.Option.{slice_get-get_or}
use Rattle.pts_types.specs.declared.value.Value.{Value}
use Rattle.pts_store.specs.Stores.{Store, IsCell, cells_in, put_cell, shown, accepted}
use Rattle.pts_store.specs.Writes.{Writes, written, SameWrites, PutsCell, Merges}
use Rattle.pts_store.proofs.Changes.{accepted-same, accepted-put, accepted-merged, length-cells_in-accepted, slice_get-accepted}

pub cell_below : (store stands : Store) (writes : Writes) (a i : ℕ) → accepted store writes ≡ stands → IsCell stands a i → IsCell store a i
cell_below store stands writes a i e within =
    omega (arith, ap (λ s. length (cells_in s a)) e, length-cells_in-accepted store writes a)

slice_get-stands : (store stands : Store) (writes : Writes) (a i : ℕ) → accepted store writes ≡ stands
    → slice_get (cells_in stands a) i ≡ option_map (shown (written writes a i)) (slice_get (cells_in store a) i)
slice_get-stands store stands writes a i e = ap (λ s. slice_get (cells_in s a) i) (sym e) ∙ slice_get-accepted store writes a i

-- the overlay's own write
pub shows_own : (store stands : Store) (writes : Writes) (a i : ℕ) (value : Value) → accepted store writes ≡ stands → IsCell stands a i
    → written writes a i ≡ Some value → Some value ≡ slice_get (cells_in stands a) i
shows_own store stands writes a i value e within own =
    let below : IsCell store a i = cell_below store stands writes a i e within in
    let there : slice_get (cells_in store a) i ≡ Some (get_or (cells_in store a) i value) = slice_get-get_or (cells_in store a) i value below in
    ap (λ o. option_map (shown o) (Some (get_or (cells_in store a) i value))) (sym own)
    ∙ ap (option_map (shown (written writes a i))) (sym there) ∙ sym (slice_get-stands store stands writes a i e)

same_option : (o : Option Value) → o ≡ option_map (shown None) o
same_option None = refl
same_option (Some value) = refl

-- no write of its own, and what lies below shows
pub shows_below : (store stands : Store) (writes : Writes) (a i : ℕ) (value : Value) → accepted store writes ≡ stands
    → written writes a i ≡ None → Some value ≡ slice_get (cells_in store a) i → Some value ≡ slice_get (cells_in stands a) i
shows_below store stands writes a i value e nothing below =
    below ∙ same_option (slice_get (cells_in store a) i)
    ∙ ap (λ o. option_map (shown o) (slice_get (cells_in store a) i)) (sym nothing) ∙ sym (slice_get-stands store stands writes a i e)

pub stands-set : {E : Type 0} (r : Result (Unit {0}) E) (store stands : Store) (old new : Writes) (a i : ℕ) (value : Value)
    → accepted store old ≡ stands → OnOk r (PutsCell old new a i value) → OnOk r (accepted store new ≡ put_cell stands a i value)
stands-set (Ok u) store stands old new a i value e puts =
    accepted-put store old new a i value puts ∙ ap (λ s. put_cell s a i value) e
stands-set (Err x) store stands old new a i value e puts = tt

pub stands-merge : {E : Type 0} (r : Result (Unit {0}) E) (store stands : Store) (old later new : Writes)
    → accepted store old ≡ stands → OnOk r (Merges old later new) → OnOk r (accepted store new ≡ accepted stands later)
stands-merge (Ok u) store stands old later new e merges =
    accepted-merged store old later new merges ∙ ap (λ s. accepted s later) e
stands-merge (Err x) store stands old later new e merges = tt

pub stands-same : {E : Type 0} (r : Result (Unit {0}) E) (store stands : Store) (old new : Writes)
    → accepted store old ≡ stands → OnErr r (SameWrites old new) → OnErr r (accepted store new ≡ stands)
stands-same (Ok u) store stands old new e same = tt
stands-same (Err x) store stands old new e same = accepted-same store old new same ∙ e
