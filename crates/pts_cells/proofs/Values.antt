-- Values that are written one after another, and what the cells show with them.
use Rattle.std.proofs.Common.{◌≡◌, ℕ, suc, zero, ◌==◌, ◌&&◌, if◌then◌else◌, Option, Some, None, List, [], ◌∷◌, length, map, get_or, set, refl, ap, sym, ◌∙◌, ⊎_elim, get_or-set_other, arith}
use Rattle.std.specs.Prelude.{slice_get}
use Rattle.std.specs.Option.{option_map}
use Rattle.std.proofs.lemmas.Bool.{cases_eq}
use Rattle.std.proofs.lemmas.Bool.Decides.{nat_tests}
use Rattle.std.proofs.lemmas.List.{get_or-set_same, length-map, length-set}
use Rattle.pts_types.specs.declared.value.Value.{Value}
use Rattle.pts_store.specs.Stores.{Store, IsCell, accepted, cells_in, shown}
use Rattle.pts_store.specs.Writes.{Writes, PutsCell, written}
use Rattle.pts_store.proofs.Changes.{slice_get-accepted}
use Rattle.pts_store.proofs.Empty.{written-empty}
use Rattle.pts_cells.specs.WrittenCells.{AreCellsOf, AreWritten, Cell, WrittenCells, no_value, none_written, seen, with_value, written_at}
use Rattle.pts_cells.proofs.Cells.{others, row_own}

-- ---- nothing

no_row : (store : Store) (a : ℕ) → get_or (none_written store) a [] ≡ map no_value (cells_in store a)
no_row [] a = refl
no_row (row ∷ rows) zero = refl
no_row (row ∷ rows) (suc a) = no_row rows a

no_values : (row : List Value) (i : ℕ) → get_or (map no_value row) i None ≡ None
no_values [] i = refl
no_values (x ∷ xs) zero = refl
no_values (x ∷ xs) (suc i) = no_values xs i

pub none_cells : (store : Store) → AreCellsOf store (none_written store)
none_cells store = record { rows = λ a. ap length (no_row store a) ∙ length-map (cells_in store a) no_value }

pub none_are_written : (store : Store) → AreWritten (none_written store) []
none_are_written store = record { cell = λ a i. written-empty a i ∙ sym (ap (λ row. get_or row i None) (no_row store a) ∙ no_values (cells_in store a) i) }

-- ---- one value more

module _ (store : Store) (cells : WrittenCells) (c : Cell) (v : Value) (old : AreCellsOf store cells) where
  abbrev row : List (Option Value)
  row = set (get_or cells c.array []) c.index (Some v)

  same_row : (a : ℕ) → length (get_or (with_value cells c v) a []) ≡ length (get_or cells a [])
  same_row a = ⊎_elim
      (λ (same : a ≡ c.array).
      ap (λ b. length (get_or (with_value cells c v) b [])) same
      ∙ ap length (row_own cells c.array c.index (Some v))
      ∙ length-set (get_or cells c.array []) c.index (Some v)
      ∙ ap (λ b. length (get_or cells b [])) (sym same))
      (λ apart. ap length (get_or-set_other cells c.array a row [] apart))
      (cases_eq a c.array)

  pub value_cells : AreCellsOf store (with_value cells c v)
  value_cells = record { rows = λ a. same_row a ∙ old.rows a }

  pub value_at : IsCell store c.array c.index → written_at (with_value cells c v) c ≡ Some v
  value_at there =
      let size = old.rows c.array in
      ap (λ r. get_or r c.index None) (row_own cells c.array c.index (Some v))
      ∙ get_or-set_same (get_or cells c.array []) c.index (Some v) None (omega (arith, there, size))

  module _ (before after : Writes) (there : IsCell store c.array c.index) (are : AreWritten cells before) (puts : PutsCell before after c.array c.index v) where
    at_cell : (a i : ℕ) → a ≡ c.array → i ≡ c.index → written after a i ≡ written_at (with_value cells c v) (record { array = a; index = i })
    at_cell a i e f =
        let is : (if a == c.array && i == c.index then Some v else written before a i) ≡ Some v = grind (arith, nat_tests) in
        puts.cell a i ∙ is ∙ sym (ap (λ d. written_at (with_value cells c v) d) (λ k. record { array = e k; index = f k }) ∙ value_at there)

    at_other : (a i : ℕ) → ((a ≡ c.array) → (i ≡ c.index) → ⊥) → written after a i ≡ written_at (with_value cells c v) (record { array = a; index = i })
    at_other a i other =
        let is : (if a == c.array && i == c.index then Some v else written before a i) ≡ written before a i = grind (arith, nat_tests) in
        puts.cell a i ∙ is ∙ are.cell a i
        ∙ sym (others cells c (record { array = a; index = i }) v (λ e. other (ap (λ (d : Cell). d.array) (sym e)) (ap (λ (d : Cell). d.index) (sym e))))

    pub value_is_written : AreWritten (with_value cells c v) after
    value_is_written = record {
      cell = λ a i.
          ⊎_elim
          (λ e. ⊎_elim (λ f. at_cell a i e f) (λ f. at_other a i (λ _ g. f g)) (cases_eq i c.index))
          (λ e. at_other a i (λ g _. e g)) (cases_eq a c.array);
    }

-- ---- what is seen

pub seen_accepted : (store : Store) (cells : WrittenCells) (writes : Writes) (a i : ℕ) → AreWritten cells writes
    → seen store cells (record { array = a; index = i }) ≡ slice_get (cells_in (accepted store writes) a) i
seen_accepted store cells writes a i are =
    ap (λ w. option_map (shown w) (slice_get (cells_in store a) i)) (sym (are.cell a i)) ∙ sym (slice_get-accepted store writes a i)
