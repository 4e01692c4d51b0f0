-- What stays in a store whatever is written, and what stays where values of the right kinds are written.
use Rattle.std.proofs.Common.{◌≡◌, ℕ, suc, zero, ◌⊎◌, inl, inr, ⊎_elim, Option, Some, None, List, [], ◌∷◌, length, set, refl, ap, ◌∙◌, sym, subst, arith}
use Rattle.std.specs.Prelude.{slice_get}
use Rattle.std.specs.Option.{option_map}
use Rattle.std.proofs.lemmas.Grind.{common_steps}
use Rattle.std.proofs.lemmas.Option.{none-some, same_Some}
use Rattle.pts_types.specs.Arithmetic.{IsValueOf}
use Rattle.pts_types.specs.declared.value.Kind.{Kind}
use Rattle.pts_types.specs.declared.value.Value.{Value}
use Rattle.pts_store.specs.Laws.{AcceptingKeepsShape, PuttingKeepsShape, AcceptingKeepsKinds, PuttingKeepsKinds}
use Rattle.pts_store.specs.Stores.{Store, cells_in, put_cell, shown}
use Rattle.pts_store.specs.Writes.{written}
use Rattle.pts_store.proofs.Changes.{length-accepted, length-cells_in-accepted, slice_get-accepted}

pub accepting_keeps_shape : AcceptingKeepsShape
accepting_keeps_shape store writes = record {
  arrays = length-accepted store writes;
  cells = length-cells_in-accepted store writes;
}

pub putting_keeps_shape : PuttingKeepsShape
putting_keeps_shape store array index value = record {
  arrays = grind (arith, common_steps);
  cells = λ a. grind (arith, common_steps);
}

-- ---- kinds

kind_shown : (kind : Kind) (written held : Option Value) (value : Value) → ((x : Value) → written ≡ Some x → IsValueOf kind x)
    → ((x : Value) → held ≡ Some x → IsValueOf kind x) → option_map (shown written) held ≡ Some value → IsValueOf kind value
kind_shown kind written None value w h e = absurd (none-some value e)
kind_shown kind None (Some x) value w h e = h value e
kind_shown kind (Some y) (Some x) value w h e = w value e

pub accepting_keeps_kinds : AcceptingKeepsKinds
accepting_keeps_kinds kinds store writes has keeps = record {
  cell = λ a i value e.
      kind_shown (kinds a) (written writes a i) (slice_get (cells_in store a) i) value (keeps.cell a i) (has.cell a i)
      (sym (slice_get-accepted store writes a i) ∙ e);
}

put_one : (xs : List Value) (i k : ℕ) (value x : Value) → slice_get (set xs i value) k ≡ Some x → (x ≡ value) ⊎ (slice_get xs k ≡ Some x)
put_one [] i k value x e = inr e
put_one (y ∷ ys) zero zero value x e = inl (sym (same_Some value x e))
put_one (y ∷ ys) zero (suc k) value x e = inr e
put_one (y ∷ ys) (suc i) zero value x e = inr e
put_one (y ∷ ys) (suc i) (suc k) value x e = put_one ys i k value x e

put_in : (store : Store) (a b i k : ℕ) (value x : Value) → slice_get (cells_in (put_cell store a i value) b) k ≡ Some x
    → ((b ≡ a) × (x ≡ value)) ⊎ (slice_get (cells_in store b) k ≡ Some x)
put_in [] a b i k value x e = inr e
put_in (cells ∷ rest) zero zero i k value x e = ⊎_elim (λ same. inl (refl, same)) (λ old. inr old) (put_one cells i k value x e)
put_in (cells ∷ rest) zero (suc b) i k value x e = inr e
put_in (cells ∷ rest) (suc a) zero i k value x e = inr e
put_in (cells ∷ rest) (suc a) (suc b) i k value x e =
    ⊎_elim (λ same. inl (ap suc same.0, same.1)) (λ old. inr old) (put_in rest a b i k value x e)

pub putting_keeps_kinds : PuttingKeepsKinds
putting_keeps_kinds kinds store array index value has is = record {
  cell = λ a i x e. ⊎_elim
      (λ same.
      let P : ℕ → Type 0 = λ b. IsValueOf (kinds b) value in
      let Q : Value → Type 0 = λ y. IsValueOf (kinds a) y in
      subst Q (sym same.1) (subst P (sym same.0) is))
      (λ old. has.cell a i x old)
      (put_in store array a index i value x e);
}

-- ---- cells

pub length-cells_in-put_cell : (store : Store) (b j : ℕ) (value : Value) (a : ℕ) → length (cells_in (put_cell store b j value) a) ≡ length (cells_in store a)
length-cells_in-put_cell store b j value a = (putting_keeps_shape store b j value).cells a

-- a cell is still one, whatever is written
pub ruleset cells_stay = (length-cells_in-put_cell, length-cells_in-accepted)
