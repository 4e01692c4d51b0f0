-- Changes of stores: one after another, apart from each other, and on stores that agree.
use Rattle.std.proofs.Common.{◌≡◌, ℕ, ◌⊎◌, Option, Some, None, refl, sym, ap, ◌∙◌, length, ⊎_elim, inl, inr}
use Rattle.std.specs.Prelude.{slice_get}
use Rattle.std.specs.Option.{option_map}
use Rattle.pts_types.specs.declared.value.Value.{Value}
use Rattle.pts_store.specs.Laws.{SameShape}
use Rattle.pts_store.specs.Stores.{Store, cells_in, shown}
use Rattle.pts_store.specs.Writes.{over}
use Rattle.pts_store.proofs.Changes.{arrays_with-nothing, arrays_with-over, cells_in-arrays_with, length-arrays_with, length-cells_with}
use Rattle.pts_store.proofs.Shown.{slice_get-cells_with}
use Rattle.pts_blocks.specs.Changes.{AgreeIn, AreApart, Cells, Changes, IsInside, changed_twice, no_changes, with_changes}

-- ---- one after another

over-none : (x : Option Value) → over None x ≡ x
over-none None = refl
over-none (Some value) = refl

over-assoc : (x y z : Option Value) → over (over x y) z ≡ over x (over y z)
over-assoc x y None = refl
over-assoc x y (Some value) = refl

pub nothing_first : (w : Changes) → changed_twice no_changes w ≡ w
nothing_first w = λ i array index. over-none (w array index) i

pub nothing_last : (w : Changes) → changed_twice w no_changes ≡ w
nothing_last w = refl

pub changed_thrice : (u v w : Changes) → changed_twice (changed_twice u v) w ≡ changed_twice u (changed_twice v w)
changed_thrice u v w = λ i array index. over-assoc (u array index) (v array index) (w array index) i

pub with_nothing : (s : Store) → with_changes no_changes s ≡ s
with_nothing s = arrays_with-nothing no_changes (λ array index. refl) s

pub with_both : (v w : Changes) (s : Store) → with_changes (changed_twice v w) s ≡ with_changes w (with_changes v s)
with_both v w s = arrays_with-over v w (changed_twice v w) (λ array index. refl) s

-- ---- apart

unchanged : (C : Cells) (w : Changes) → IsInside C w → (array index : ℕ) → (C array index → ⊥) → w array index ≡ None
unchanged C w inside array index out = by_value (w array index) refl
  where
    by_value : (o : Option Value) → w array index ≡ o → w array index ≡ None
    by_value None e = e
    by_value (Some value) e = absurd (out (inside array index value e))

over-swap : (x y : Option Value) → ((v : Value) → x ≡ Some v → y ≡ None) → over x y ≡ over y x
over-swap None y apart = over-none y
over-swap (Some v) y apart = ap (over (Some v)) (apart v refl) ∙ sym (ap (λ o. over o (Some v)) (apart v refl))

pub swapped : (C D : Cells) (v w : Changes) → IsInside C v → IsInside D w → AreApart C D → changed_twice v w ≡ changed_twice w v
swapped C D v w in_first in_second apart =
    λ i array index.
    over-swap
    (v array index)
    (w array index)
    (λ value e. unchanged D w in_second array index (λ d. apart array index (in_first array index value e) d))
    i

-- ---- stores that agree

pub same_shape : (w : Changes) (s : Store) → SameShape s (with_changes w s)
same_shape w s =
    record {
      arrays = length-arrays_with w s;
      cells = λ array. ap length (cells_in-arrays_with w s array) ∙ length-cells_with (w array) (cells_in s array);
    }

pub shape_twice : {r s t : Store} → SameShape r s → SameShape s t → SameShape r t
shape_twice one other = record { arrays = other.arrays ∙ one.arrays; cells = λ array. other.cells array ∙ one.cells array }

pub shape_back : {s t : Store} → SameShape s t → SameShape t s
shape_back same = record { arrays = sym same.arrays; cells = λ array. sym (same.cells array) }

cell_in : (w : Changes) (s : Store) (array index : ℕ) → slice_get (cells_in (with_changes w s) array) index ≡ option_map (shown (w array index)) (slice_get (cells_in s array) index)
cell_in w s array index =
    ap (λ cells. slice_get cells index) (cells_in-arrays_with w s array) ∙ slice_get-cells_with (w array) (cells_in s array) index

option_map-shown-none : (o : Option Value) → option_map (shown None) o ≡ o
option_map-shown-none None = refl
option_map-shown-none (Some value) = refl

-- the same changes made in both
pub agree_changed : (C : Cells) (w : Changes) (s t : Store) → AgreeIn C s t → AgreeIn C (with_changes w s) (with_changes w t)
agree_changed C w s t agree =
    record {
      shape = shape_twice (shape_back (same_shape w s)) (shape_twice agree.shape (same_shape w t));
      cell =
          λ array index here.
          cell_in w t array index ∙ ap (option_map (shown (w array index))) (agree.cell array index here) ∙ sym (cell_in w s array index);
    }

-- changes elsewhere
pub agree_elsewhere : (C D : Cells) (w : Changes) (s : Store) → IsInside C w → AreApart C D → AgreeIn D s (with_changes w s)
agree_elsewhere C D w s inside apart =
    record {
      shape = same_shape w s;
      cell =
          λ array index here.
          cell_in w s array index
          ∙ ap (λ o. option_map (shown o) (slice_get (cells_in s array) index)) (unchanged C w inside array index (λ c. apart array index c here))
          ∙ option_map-shown-none (slice_get (cells_in s array) index);
    }

pub agree_back : {C : Cells} {s t : Store} → AgreeIn C s t → AgreeIn C t s
agree_back agree = record { shape = shape_back agree.shape; cell = λ array index here. sym (agree.cell array index here) }

-- in fewer cells
pub agree_in_part : (C D : Cells) (s t : Store) → ((array index : ℕ) → D array index → C array index) → AgreeIn C s t → AgreeIn D s t
agree_in_part C D s t part agree = record { shape = agree.shape; cell = λ array index here. agree.cell array index (part array index here) }

-- ---- changes inside a set

pub inside_nothing : (C : Cells) → IsInside C no_changes
inside_nothing C array index value e = absurd (cc)

either_of : (x y : Option Value) (value : Value) → over x y ≡ Some value → (x ≡ Some value) ⊎ (y ≡ Some value)
either_of x None value e = inl e
either_of x (Some later) value e = inr e

pub inside_both : (C : Cells) (v w : Changes) → IsInside C v → IsInside C w → IsInside C (changed_twice v w)
inside_both C v w in_first in_second array index value e =
    ⊎_elim (in_first array index value) (in_second array index value) (either_of (v array index) (w array index) value e)

pub inside_more : (C D : Cells) (w : Changes) → ((array index : ℕ) → C array index → D array index) → IsInside C w → IsInside D w
inside_more C D w more inside array index value e = more array index (inside array index value e)
