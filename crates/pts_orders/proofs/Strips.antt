-- Strips whose parts are cut at cuts are linear extensions.
use Rattle.std.proofs.Common.{◌≡◌, ℕ, zero, suc, ◌+◌, ◌-◌, ◌≤◌, ◌<◌, Bool, true, false, List, [], ◌∷◌, ◌++◌, refl, ap, ◌∙◌, append-nil, arith}
use Rattle.std.proofs.lemmas.Bool.Decides.{nat_tests}
use Rattle.pts_orders.specs.Evaluations.{Evaluation, is_earlier, is_within, one_if, times, Pairs}
use Rattle.pts_orders.specs.Extensions.{IsLinearExtension, GoesForward, AreCuts}
use Rattle.pts_orders.specs.Grids.{points_at, grid, index_order, strip, strips, singles, Rises}
use Rattle.pts_orders.proofs.Lists.{pairs_append}
use Rattle.pts_orders.proofs.Counting.{count_grid, count_strip, count_strips, counted, is_counted}
use Rattle.pts_orders.proofs.IndexOrder.{Allows, pairs_by, across_by, grid_ascends}

-- each number parts what is below it from what is not
Parts : (Evaluation → Evaluation → Type 0) → List ℕ → Type 0
Parts R [] = Unit {0}
Parts R (b ∷ bs) = ((x y : Evaluation) → x.point < b → b ≤ y.point → R x y) × Parts R bs

module _ (R : Evaluation → Evaluation → Type 0) (forward : (x y : Evaluation) → is_earlier x y ≡ true → R x y) where
  strip_pairs : (p n k : ℕ) (ends : List ℕ) (last : ℕ) → Rises k ends last → Parts R ends → Pairs R (strip p n k ends)
  unfolding Parts
  strip_pairs p n k [] last h cuts = tt
  strip_pairs p n k (end ∷ ends) last h cuts =
      let up : k ≤ end = h.0 in
      pairs_append R (grid p n k (end - k)) (strip p n end ends)
      (pairs_by (λ x y. is_earlier x y ≡ true) R (grid p n k (end - k)) (grid_ascends p n k (end - k)) (λ x y _ _. forward x y))
      (strip_pairs p n end ends last h.1 cuts.1)
      (across_by R (grid p n k (end - k)) (strip p n end ends) (λ x y t u.
      let v = counted x (grid p n k (end - k)) p (p + n) k end (count_grid x p n (p + n) k (end - k) end refl (omega arith)) t in
      let w = counted y (strip p n end ends) p (p + n) end last (count_strip y p n (p + n) end ends last refl h.1) u in
      cuts.0 x y v.3 w.2))

  strips_pairs : (p : ℕ) (rows : List ℕ) (q k : ℕ) (ends : List ℕ) (last : ℕ) → Rises p rows q → Rises k ends last → Parts R ends
      → Pairs R (strips p rows k ends)
  strips_pairs p [] q k ends last h g cuts = tt
  strips_pairs p (row ∷ rows) q k ends last h g cuts =
      let up : p ≤ row = h.0 in
      pairs_append R (strip p (row - p) k ends) (strips row rows k ends)
      (strip_pairs p (row - p) k ends last g cuts)
      (strips_pairs row rows q k ends last h.1 g cuts)
      (across_by R (strip p (row - p) k ends) (strips row rows k ends) (λ x y t u.
      let v = counted x (strip p (row - p) k ends) p row k last (count_strip x p (row - p) row k ends last (omega arith) g) t in
      let w = counted y (strips row rows k ends) row q k last (count_strips y row rows q k ends last h.1 g) u in
      let a = v.1 in let b = w.0 in forward x y (grind (arith, nat_tests))))

-- strips are a linear extension of an order that goes forward, where parts end at cuts
pub strips_extend : (before : Evaluation → Evaluation → Bool) (n first last : ℕ) (rows ends : List ℕ)
    → GoesForward (is_within 0 n first last) before → AreCuts (is_within 0 n first last) before ends → Rises 0 rows n → Rises first ends last
    → IsLinearExtension (is_within 0 n first last) before (strips 0 rows first ends)
unfolding Parts
strips_extend before n first last rows ends forward cuts h g =
    let once : (x : Evaluation) → times x (strips 0 rows first ends) ≡ one_if (is_within 0 n first last x) =
    λ x. count_strips x 0 rows n first ends last h g in
    record {
      each_once = once;
      in_order = pairs_by (Allows (is_within 0 n first last) before) (λ x y. before y x ≡ false) (strips 0 rows first ends)
          (strips_pairs (Allows (is_within 0 n first last) before) (λ x y e a b. forward x y a b e) 0 rows n first ends last h g (parts ends cuts))
          (λ x y t u allowed. allowed
          (is_counted x (strips 0 rows first ends) (is_within 0 n first last x) (once x) t)
          (is_counted y (strips 0 rows first ends) (is_within 0 n first last y) (once y) u));
    }
  where
    parts : (bs : List ℕ) → AreCuts (is_within 0 n first last) before bs → Parts (Allows (is_within 0 n first last) before) bs
    parts [] c = tt
    parts (b ∷ bs) c = (λ x y l r a b. c.0 x y a b l r, parts bs c.1)

-- ---- strips of one position each

single_strip : (p k m : ℕ) → strip p (suc p - p) k ((k + m) ∷ []) ≡ points_at p k m
single_strip p k m =
    let one : suc p - p ≡ 1 = omega arith in
    let all : (k + m) - k ≡ m = omega arith in
    ap (λ n. grid p n k ((k + m) - k) ++ []) one ∙ ap (λ n. grid p 1 k n ++ []) all
    ∙ append-nil (points_at p k m ++ []) ∙ append-nil (points_at p k m)

singles_are_grid : (p n k m : ℕ) → strips p (singles p n) k ((k + m) ∷ []) ≡ grid p n k m
singles_are_grid p zero k m = refl
singles_are_grid p (suc n) k m =
    ap (λ l. l ++ strips (suc p) (singles (suc p) n) k ((k + m) ∷ [])) (single_strip p k m)
    ∙ ap (λ l. points_at p k m ++ l) (singles_are_grid (suc p) n k m)

singles_rise : (p n q : ℕ) → p + n ≡ q → Rises p (singles p n) q
singles_rise p zero q e = omega arith
singles_rise p (suc n) q e = ((let up : p ≤ suc p = omega arith in up), singles_rise (suc p) n q (omega arith))

-- index order is strips of one position each
pub index_order_is_strips : (n first m : ℕ) → (strips 0 (singles 0 n) first ((first + m) ∷ []) ≡ index_order n first m) × Rises 0 (singles 0 n) n
index_order_is_strips n first m = (singles_are_grid 0 n first m, singles_rise 0 n n (omega arith))
