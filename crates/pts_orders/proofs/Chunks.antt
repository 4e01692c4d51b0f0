-- Chunks in any order are a linear extension of an order that stays at positions.
use Rattle.std.proofs.Common.{◌≡◌, ◌≢◌, ℕ, ◌+◌, ◌≤◌, Bool, true, false, List, [], ◌∷◌, refl, sym, arith, nat_le, nat_lt, ◌&&◌}
use Rattle.std.proofs.lemmas.Bool.Decides.{nat_tests}
use Rattle.pts_orders.specs.Evaluations.{Evaluation, is_earlier, is_within, one_if, times, Pairs}
use Rattle.pts_orders.specs.Extensions.{IsLinearExtension, GoesForward, StaysAtPositions}
use Rattle.pts_orders.specs.Grids.{grid, Chunk, chunks, chunks_with}
use Rattle.pts_orders.proofs.Lists.{pairs_append}
use Rattle.pts_orders.proofs.Counting.{count_grid, count_chunks, count_none, counted, is_counted}
use Rattle.pts_orders.proofs.IndexOrder.{Allows, pairs_by, across_by, grid_ascends}

-- what stands in the chunks is at one of their positions
in_chunks : (x : Evaluation) (first m : ℕ) (cs : List Chunk) → 1 ≤ times x (chunks first m cs) → 1 ≤ chunks_with x.position cs
in_chunks x first m cs h = by (nat_le first x.point && nat_lt x.point (first + m)) refl
  where
    by : (b : Bool) → (nat_le first x.point && nat_lt x.point (first + m)) ≡ b → 1 ≤ chunks_with x.position cs
    by true e = let c = count_chunks x first m (first + m) cs refl e in omega arith
    by false e = let c = count_none x first m (first + m) cs refl e in absurd (omega arith)

module _ (R : Evaluation → Evaluation → Type 0) (forward : (x y : Evaluation) → is_earlier x y ≡ true → R x y)
    (apart : (x y : Evaluation) → x.position ≢ y.position → R x y) where
  chunks_pairs : (first m : ℕ) (cs : List Chunk) → ((p : ℕ) → chunks_with p cs ≤ 1) → Pairs R (chunks first m cs)
  chunks_pairs first m [] h = tt
  chunks_pairs first m (c ∷ cs) h =
      pairs_append R (grid c.start c.height first m) (chunks first m cs)
      (pairs_by (λ x y. is_earlier x y ≡ true) R (grid c.start c.height first m) (grid_ascends c.start c.height first m) (λ x y _ _. forward x y))
      (chunks_pairs first m cs (λ p. let one = h p in omega arith))
      (across_by R (grid c.start c.height first m) (chunks first m cs) (λ x y t u.
      let v = counted x (grid c.start c.height first m) c.start (c.start + c.height) first (first + m)
      (count_grid x c.start c.height (c.start + c.height) first m (first + m) refl refl) t in
      let a = v.0 in let b = v.1 in
      let w = in_chunks y first m cs u in
      let one = h y.position in
      apart x y (λ same. absurd (grind (arith, nat_tests)))))

-- chunks that have each position once are a linear extension, in any order
pub chunks_extend : (before : Evaluation → Evaluation → Bool) (n first m : ℕ) (cs : List Chunk)
    → GoesForward (is_within 0 n first (first + m)) before → StaysAtPositions before → ((p : ℕ) → chunks_with p cs ≡ one_if (nat_lt p n))
    → IsLinearExtension (is_within 0 n first (first + m)) before (chunks first m cs)
chunks_extend before n first m cs forward stays each =
    record {
      each_once = once;
      in_order = pairs_by (Allows (is_within 0 n first (first + m)) before) (λ x y. before y x ≡ false) (chunks first m cs)
          (chunks_pairs (Allows (is_within 0 n first (first + m)) before) (λ x y e a b. forward x y a b e) (λ x y d _ _. free y x (λ e. d (sym e))) first m cs (λ p. atmost p))
          (λ x y t u allowed. allowed
          (is_counted x (chunks first m cs) (is_within 0 n first (first + m) x) (once x) t)
          (is_counted y (chunks first m cs) (is_within 0 n first (first + m) y) (once y) u));
    }
  where
    once : (x : Evaluation) → times x (chunks first m cs) ≡ one_if (is_within 0 n first (first + m) x)
    once x = by (nat_le first x.point && nat_lt x.point (first + m)) refl
      where
        by : (b : Bool) → (nat_le first x.point && nat_lt x.point (first + m)) ≡ b → times x (chunks first m cs) ≡ one_if (is_within 0 n first (first + m) x)
        by true e = let c = count_chunks x first m (first + m) cs refl e in let one = each x.position in grind (arith, nat_tests)
        by false e = let c = count_none x first m (first + m) cs refl e in grind (arith, nat_tests)

    atmost : (p : ℕ) → chunks_with p cs ≤ 1
    atmost p = let one = each p in grind (arith, nat_tests)

    free : (x y : Evaluation) → x.position ≢ y.position → before x y ≡ false
    free x y d = by (before x y) refl
      where
        by : (b : Bool) → before x y ≡ b → before x y ≡ false
        by true e = absurd (d (stays x y e))
        by false e = e
