-- Cells that are made one after the other.
use Rattle.std.proofs.Common.{◌≡◌, ℕ, zero, suc, ◌+◌, ◌<◌, List, [], ◌∷◌, ◌++◌, length, map, refl, sym, ap, ◌∙◌, subst, arith, Bool, ◌&&◌, ℤ, pos, ◌+ℤ◌, w64, FitsSigned, Option, Some, None}
use Rattle.std.specs.Prelude.{IsTrue, replicate}
use Rattle.std.specs.List.{list_all, range_with_len}
use Rattle.std.proofs.lemmas.Bool.{and_parts}
use Rattle.std.proofs.lemmas.List.FromFn.{map-range_with_len_more}
use Rattle.std.specs.Int.{int_wrap}
use Rattle.std.proofs.lemmas.Int.{ints, int_wrap_fits, int_wrap-add_left}
use Rattle.pts_types.specs.declared.value.Kind.{Kind}
use Rattle.pts_types.specs.declared.value.Kind.TheVariants as kinds
use Rattle.pts_types.specs.declared.value.Value.{Value}
use Rattle.pts_types.specs.declared.value.Value.TheVariants as values
use Rattle.pts_tree.specs.declared.sum.Sum.{Sum}
use Rattle.pts_rules.specs.Known.{Scope, holds, number, sum_is, sum_value, has}
use Rattle.pts_rules.specs.Mistyped.{iota_cell, iota_right}
use Rattle.pts_starts.specs.Starts.{iota_value}

-- one cell more that is made by its place
pub one_more : {A : Type 0} (f : ℕ → A) (n : ℕ) → map f (range_with_len 0 (n + 1)) ≡ map f (range_with_len 0 n) ++ f n ∷ []
one_more f n = map-range_with_len_more f 0 n n (omega arith)

pub same_more : {A : Type 0} (x : A) (n : ℕ) → replicate (n + 1) x ≡ replicate n x ++ x ∷ []
same_more x zero = refl
same_more x (suc n) = let e : suc n + 1 ≡ suc (n + 1) = omega arith in ap (λ m. replicate m x) e ∙ ap (λ xs. x ∷ xs) (same_more x n)

-- what holds of each place below n holds of each
pub at_place : (f : ℕ → Bool) (a n i : ℕ) → IsTrue (list_all f (range_with_len a n)) → i < n → IsTrue (f (a + i))
at_place f a zero i all less = absurd (omega (arith, less))
at_place f a (suc n) zero all less = let e : a ≡ a + 0 = omega arith in subst (λ m. IsTrue (f m)) e (and_parts (f a) (list_all f (range_with_len (a + 1) n)) all).0
at_place f a (suc n) (suc i) all less =
    let e : a + 1 + i ≡ a + suc i = omega arith in
    subst (λ m. IsTrue (f m)) e (at_place f (a + 1) n i (and_parts (f a) (list_all f (range_with_len (a + 1) n)) all).1 (omega (arith, less)))

-- ---- rows of `i64` numbers, which wrap behind the last one alone

next_number : (x y : ℤ) (j : ℕ) → iota_cell x y j +ℤ y ≡ iota_cell x y (j + 1)
next_number x y j = grind (arith, ints)

pub next_wrapped : (x y v next : ℤ) (j : ℕ) → v ≡ int_wrap w64 (iota_cell x y j) → next ≡ int_wrap w64 (v +ℤ y) → next ≡ int_wrap w64 (iota_cell x y (j + 1))
next_wrapped x y v next j e step =
    step ∙ ap (λ z. int_wrap w64 (z +ℤ y)) e ∙ int_wrap-add_left w64 (iota_cell x y j) y ∙ ap (int_wrap w64) (next_number x y j)

kept_fits : (z : ℤ) → IsTrue (holds kinds.I64 z) → FitsSigned w64 z
kept_fits z h = grind (arith, ints, h)

pub cells_more : (x y v : ℤ) (j n : ℕ) (cells : List Value) → cells ≡ map (iota_value kinds.I64 x y) (range_with_len 0 j) → v ≡ int_wrap w64 (iota_cell x y j)
    → IsTrue (list_all (λ i. holds kinds.I64 (iota_cell x y i)) (range_with_len 0 n)) → j < n
    → cells ++ values.I64 v ∷ [] ≡ map (iota_value kinds.I64 x y) (range_with_len 0 (j + 1))
cells_more x y v j n cells so_far e all less =
    let zero_j : 0 + j ≡ j = omega arith in
    let here : IsTrue (holds kinds.I64 (iota_cell x y j)) = subst (λ i. IsTrue (holds kinds.I64 (iota_cell x y i))) zero_j (at_place (λ i. holds kinds.I64 (iota_cell x y i)) 0 n j all less) in
    let same : v ≡ iota_cell x y j = e ∙ int_wrap_fits w64 (iota_cell x y j) (kept_fits (iota_cell x y j) here) in
    ap (λ (z : ℤ). cells ++ values.I64 z ∷ []) same
    ∙ ap (λ (xs : List Value). xs ++ iota_value kinds.I64 x y j ∷ []) so_far
    ∙ sym (one_more (iota_value kinds.I64 x y) j)

pub number_holds : (scope : Scope) (test : ℤ → Bool) (x : Sum) → IsTrue (sum_is scope test x) → IsTrue (test (number scope x))
number_holds scope test x h = of_value (sum_value scope x) h
  where
    of_value : (o : Option ℤ) → IsTrue (has test o) → IsTrue (test (elim o [ None ↦ pos 0 | Some z ↦ z ]))
    of_value None h = absurd (cc)
    of_value (Some z) h = h

-- the numbers of a row have the kind, and so has each of its cells
pub iota_parts : (scope : Scope) (length : ℕ) (first step : Sum) → IsTrue (iota_right scope kinds.I64 length first step)
    → IsTrue (sum_is scope (holds kinds.I64) first) × IsTrue (sum_is scope (holds kinds.I64) step)
    × IsTrue (list_all (λ j. holds kinds.I64 (iota_cell (number scope first) (number scope step) j)) (range_with_len 0 length))
iota_parts scope length first step h =
    let cells = list_all (λ j. holds kinds.I64 (iota_cell (number scope first) (number scope step) j)) (range_with_len 0 length) in
    let p = and_parts (sum_is scope (holds kinds.I64) first && sum_is scope (holds kinds.I64) step) cells h in
    let q = and_parts (sum_is scope (holds kinds.I64) first) (sum_is scope (holds kinds.I64) step) p.0 in
    (q.0, q.1, p.1)

pub u64_parts : (scope : Scope) (kind : Kind) (length : ℕ) (first step : Sum) → ¬ (kind ≡ kinds.I64) → IsTrue (iota_right scope kind length first step)
    → (kind ≡ kinds.U64) × IsTrue (sum_is scope (holds kinds.U64) first) × IsTrue (sum_is scope (holds kinds.U64) step)
u64_parts scope kinds.I64 length first step other h = absurd (other refl)
u64_parts scope kinds.Bool length first step other h = absurd (cc)
u64_parts scope kinds.U64 length first step other h = let p = and_parts (sum_is scope (holds kinds.U64) first) (sum_is scope (holds kinds.U64) step) h in (refl, p.0, p.1)

pub iota_kept : (scope : Scope) (length : ℕ) (first step : Sum) (x y : ℤ) → IsTrue (iota_right scope kinds.I64 length first step) → x ≡ number scope first → y ≡ number scope step
    → IsTrue (list_all (λ j. holds kinds.I64 (iota_cell x y j)) (range_with_len 0 length))
iota_kept scope length first step x y h e d =
    subst (λ (z : ℤ). IsTrue (list_all (λ j. holds kinds.I64 (iota_cell z y j)) (range_with_len 0 length))) (sym e)
    (subst (λ (z : ℤ). IsTrue (list_all (λ j. holds kinds.I64 (iota_cell (number scope first) z j)) (range_with_len 0 length))) (sym d) (iota_parts scope length first step h).2)
