-- A turn of each loop of the runs, and its end.
use Rattle.std.proofs.Common.{◌≡◌, ℕ, suc, ◌+◌, ◌-◌, ◌≤◌, ◌<◌, Option, Some, None, List, ◌∷◌, ◌++◌, length, drop, get_or, ap, sym, ◌∙◌, arith, drop-cons}
use Rattle.std.specs.Option.{option_and_then}
use Rattle.pts_orders.specs.Evaluations.{Evaluation, at}
use Rattle.pts_orders.specs.Grids.{points_at, grid, strip, strips}
use Rattle.pts_orders.specs.Runs.{run}
use Rattle.pts_orders.proofs.Confluence.{run-append}

module _ {S : Type 0} (step : Evaluation → S → Option S) where
  -- ---- points

  pub point_goes : (p k m : ℕ) (s t : S) → step (at p k) s ≡ Some t → k < m
      → run step (points_at p k (m - k)) s ≡ run step (points_at p (k + 1) (m - (k + 1))) t
  point_goes p k m s t e h =
      let more : m - k ≡ suc (m - (k + 1)) = omega arith in
      let next : k + 1 ≡ suc k = omega arith in
      ap (λ n. run step (points_at p k n) s) more ∙ ap (option_and_then (run step (points_at p (suc k) (m - (k + 1))))) e
      ∙ ap (λ n. run step (points_at p n (m - (k + 1))) t) (sym next)

  pub point_throws : (p k m : ℕ) (s : S) → step (at p k) s ≡ None → k < m → run step (points_at p k (m - k)) s ≡ None
  point_throws p k m s e h =
      let more : m - k ≡ suc (m - (k + 1)) = omega arith in
      ap (λ n. run step (points_at p k n) s) more ∙ ap (option_and_then (run step (points_at p (suc k) (m - (k + 1))))) e

  pub points_done : (p k m : ℕ) (s : S) → m ≤ k → run step (points_at p k (m - k)) s ≡ Some s
  points_done p k m s h = let none : m - k ≡ 0 = omega arith in ap (λ n. run step (points_at p k n) s) none

  -- ---- lists behind one another

  part_goes : (xs ys : List Evaluation) (s t : S) → run step xs s ≡ Some t → run step (xs ++ ys) s ≡ run step ys t
  part_goes xs ys s t e = run-append step xs ys s ∙ ap (option_and_then (run step ys)) e

  part_throws : (xs ys : List Evaluation) (s : S) → run step xs s ≡ None → run step (xs ++ ys) s ≡ None
  part_throws xs ys s e = run-append step xs ys s ∙ ap (option_and_then (run step ys)) e

  -- ---- positions

  pub row_goes : (p q k m : ℕ) (s t : S) → run step (points_at p k m) s ≡ Some t → p < q
      → run step (grid p (q - p) k m) s ≡ run step (grid (p + 1) (q - (p + 1)) k m) t
  row_goes p q k m s t e h =
      let more : q - p ≡ suc (q - (p + 1)) = omega arith in
      let next : p + 1 ≡ suc p = omega arith in
      ap (λ n. run step (grid p n k m) s) more ∙ part_goes (points_at p k m) (grid (suc p) (q - (p + 1)) k m) s t e
      ∙ ap (λ n. run step (grid n (q - (p + 1)) k m) t) (sym next)

  pub row_throws : (p q k m : ℕ) (s : S) → run step (points_at p k m) s ≡ None → p < q → run step (grid p (q - p) k m) s ≡ None
  row_throws p q k m s e h =
      let more : q - p ≡ suc (q - (p + 1)) = omega arith in
      ap (λ n. run step (grid p n k m) s) more ∙ part_throws (points_at p k m) (grid (suc p) (q - (p + 1)) k m) s e

  pub rows_done : (p q k m : ℕ) (s : S) → q ≤ p → run step (grid p (q - p) k m) s ≡ Some s
  rows_done p q k m s h = let none : q - p ≡ 0 = omega arith in ap (λ n. run step (grid p n k m) s) none

  -- ---- parts of a strip

  left : (ns : List ℕ) (i end : ℕ) → i < length ns → end ≡ get_or ns i 0 → drop i ns ≡ end ∷ drop (i + 1) ns
  left ns i end h e = let next : i + 1 ≡ suc i = omega arith in
      drop-cons ns i 0 h ∙ ap (λ n. n ∷ drop (suc i) ns) (sym e) ∙ ap (λ j. end ∷ drop j ns) (sym next)

  pub strip_goes : (p n k : ℕ) (ends : List ℕ) (i end : ℕ) (s t : S) → run step (grid p n k (end - k)) s ≡ Some t
      → i < length ends → end ≡ get_or ends i 0 → run step (strip p n k (drop i ends)) s ≡ run step (strip p n end (drop (i + 1) ends)) t
  strip_goes p n k ends i end s t e h f =
      ap (λ l. run step (strip p n k l) s) (left ends i end h f) ∙ part_goes (grid p n k (end - k)) (strip p n end (drop (i + 1) ends)) s t e

  pub strip_throws : (p n k : ℕ) (ends : List ℕ) (i end : ℕ) (s : S) → run step (grid p n k (end - k)) s ≡ None
      → i < length ends → end ≡ get_or ends i 0 → run step (strip p n k (drop i ends)) s ≡ None
  strip_throws p n k ends i end s e h f =
      ap (λ l. run step (strip p n k l) s) (left ends i end h f) ∙ part_throws (grid p n k (end - k)) (strip p n end (drop (i + 1) ends)) s e

  -- ---- strips

  pub strips_go : (p : ℕ) (rows : List ℕ) (i row k : ℕ) (ends : List ℕ) (s t : S) → run step (strip p (row - p) k ends) s ≡ Some t
      → i < length rows → row ≡ get_or rows i 0 → run step (strips p (drop i rows) k ends) s ≡ run step (strips row (drop (i + 1) rows) k ends) t
  strips_go p rows i row k ends s t e h f =
      ap (λ l. run step (strips p l k ends) s) (left rows i row h f) ∙ part_goes (strip p (row - p) k ends) (strips row (drop (i + 1) rows) k ends) s t e

  pub strips_throw : (p : ℕ) (rows : List ℕ) (i row k : ℕ) (ends : List ℕ) (s : S) → run step (strip p (row - p) k ends) s ≡ None
      → i < length rows → row ≡ get_or rows i 0 → run step (strips p (drop i rows) k ends) s ≡ None
  strips_throw p rows i row k ends s e h f =
      ap (λ l. run step (strips p l k ends) s) (left rows i row h f) ∙ part_throws (strip p (row - p) k ends) (strips row (drop (i + 1) rows) k ends) s e

pub ruleset point_turns = (point_goes, point_throws, points_done)

pub ruleset grid_turns = (row_goes, row_throws, rows_done)

pub ruleset strip_turns = (strip_goes, strip_throws)

pub ruleset strips_turns = (strips_go, strips_throw)
