-- Cells that are written: a write leaves all other cells as they are, and two cells may be written in either order.
use Rattle.std.proofs.Common.{◌≡◌, ◌≢◌, ℕ, suc, zero, ◌≤◌, Option, Some, None, List, [], ◌∷◌, length, get_or, set, refl, ap, sym, ◌∙◌, ⊎_elim, get_or-set_other, arith}
use Rattle.std.proofs.lemmas.Bool.{cases_eq}
use Rattle.std.proofs.lemmas.List.{get_or_past, set_comm}
use Rattle.pts_types.specs.declared.value.Value.{Value}
use Rattle.pts_cells.specs.WrittenCells.{Cell, WrittenCells, written_at, with_value}

-- ---- lists

-- an element that is set; past the end nothing is
own : {A : Type 0} (xs : List A) (i : ℕ) (d x : A) → (length xs ≤ i → x ≡ d) → get_or (set xs i x) i d ≡ x
own [] i d x h = sym (h (omega arith))
own (y ∷ xs) zero d x h = refl
own (y ∷ xs) (suc i) d x h = own xs i d x (λ past. h (omega (arith, past)))

pub set_twice : {A : Type 0} (xs : List A) (i : ℕ) (x y : A) → set (set xs i x) i y ≡ set xs i y
set_twice [] i x y = refl
set_twice (z ∷ xs) zero x y = refl
set_twice (z ∷ xs) (suc i) x y = ap (λ l. z ∷ l) (set_twice xs i x y)

-- a row with a value more, as it is found again
pub row_own : (m : WrittenCells) (a i : ℕ) (v : Option Value) → get_or (set m a (set (get_or m a []) i v)) a [] ≡ set (get_or m a []) i v
row_own m a i v = own m a [] (set (get_or m a []) i v) (λ past. ap (λ row. set row i v) (get_or_past m a [] past))

-- ---- cells

same_cell : (c d : Cell) → c.array ≡ d.array → c.index ≡ d.index → c ≡ d
same_cell c d e f = λ i. record { array = e i; index = f i }

pub others : (m : WrittenCells) (c d : Cell) (v : Value) → c ≢ d → written_at (with_value m c v) d ≡ written_at m d
others m c d v other = ⊎_elim
    (λ (same : d.array ≡ c.array).
    let e : get_or (with_value m c v) d.array [] ≡ set (get_or m d.array []) c.index (Some v) =
    ap (λ a. get_or (with_value m c v) a []) same ∙ row_own m c.array c.index (Some v) ∙ ap (λ a. set (get_or m a []) c.index (Some v)) (sym same) in
    ap (λ row. get_or row d.index None) e
    ∙ get_or-set_other (get_or m d.array []) c.index d.index (Some v) None (λ f. other (same_cell c d (sym same) (sym f))))
    (λ apart. ap (λ row. get_or row d.index None) (get_or-set_other m c.array d.array (set (get_or m c.array []) c.index (Some v)) [] apart))
    (cases_eq d.array c.array)

module _ (m : WrittenCells) (a i b j : ℕ) (v w : Option Value) where
  -- two values, one after the other
  abbrev both : WrittenCells
  both = set (set m a (set (get_or m a []) i v)) b (set (get_or (set m a (set (get_or m a []) i v)) b []) j w)

  in_two_rows : b ≢ a → both ≡ set (set m a (set (get_or m a []) i v)) b (set (get_or m b []) j w)
  in_two_rows apart =
      ap (λ row. set (set m a (set (get_or m a []) i v)) b (set row j w)) (get_or-set_other m a b (set (get_or m a []) i v) [] apart)

  in_one_row : b ≡ a → both ≡ set m a (set (set (get_or m a []) i v) j w)
  in_one_row same =
      ap (λ c. set (set m a (set (get_or m a []) i v)) c (set (get_or (set m a (set (get_or m a []) i v)) c []) j w)) same
      ∙ ap (λ row. set (set m a (set (get_or m a []) i v)) a (set row j w)) (row_own m a i v)
      ∙ set_twice m a (set (get_or m a []) i v) (set (set (get_or m a []) i v) j w)

pub swaps : (m : WrittenCells) (c d : Cell) (v w : Value) → c ≢ d → with_value (with_value m c v) d w ≡ with_value (with_value m d w) c v
swaps m c d v w other = ⊎_elim
    (λ (same : d.array ≡ c.array).
    in_one_row m c.array c.index d.array d.index (Some v) (Some w) same
    ∙ ap (λ row. set m c.array row) (set_comm (get_or m c.array []) c.index d.index (Some v) (Some w) (λ f. other (same_cell c d (sym same) f)))
    ∙ ap (λ a. set m a (set (set (get_or m a []) d.index (Some w)) c.index (Some v))) (sym same)
    ∙ sym (in_one_row m d.array d.index c.array c.index (Some w) (Some v) (sym same)))
    (λ apart.
    in_two_rows m c.array c.index d.array d.index (Some v) (Some w) apart
    ∙ set_comm m c.array d.array (set (get_or m c.array []) c.index (Some v)) (set (get_or m d.array []) d.index (Some w)) (λ e. apart (sym e))
    ∙ sym (in_two_rows m d.array d.index c.array c.index (Some w) (Some v) (λ e. apart (sym e))))
    (cases_eq d.array c.array)
