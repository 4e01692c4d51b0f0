-- Index order: it ascends, it is a linear extension of each order that goes forward, and all linear extensions have its outcome.
use Rattle.std.proofs.Common.{◌≡◌, ℕ, zero, suc, ◌+◌, ◌≤◌, ◌<◌, Bool, true, false, Option, List, refl, ap, sym, ◌∙◌, arith}
use Rattle.std.proofs.lemmas.Bool.Decides.{nat_tests}
use Rattle.pts_orders.specs.Evaluations.{Evaluation, at, is_same, is_earlier, is_within, one_if, times, Each, Pairs}
use Rattle.pts_orders.specs.Extensions.{IsLinearExtension, GoesForward}
use Rattle.pts_orders.specs.Grids.{points_at, grid, index_order}
use Rattle.pts_orders.specs.Runs.{run, MaySwap}
use Rattle.pts_orders.proofs.Lists.{each_from, pairs_weaker, pairs_append}
use Rattle.pts_orders.proofs.Counting.{count_grid, counted, is_counted}
use Rattle.pts_orders.proofs.Confluence.{confluent}

-- what stands in the lists, and not just anything, is paired
pub pairs_by : (R Q : Evaluation → Evaluation → Type 0) (xs : List Evaluation) → Pairs R xs
    → ((x y : Evaluation) → 1 ≤ times x xs → 1 ≤ times y xs → R x y → Q x y) → Pairs Q xs
pairs_by R Q xs h f = pairs_weaker (λ x. 1 ≤ times x xs) R Q f xs (each_from (λ x. 1 ≤ times x xs) xs (λ x t. t)) h

-- y may stand behind x, where both are evaluations
abbrev pub Allows : (Evaluation → Bool) → (Evaluation → Evaluation → Bool) → Evaluation → Evaluation → Type 0
Allows is_evaluation before x y = is_evaluation x ≡ true → is_evaluation y ≡ true → before y x ≡ false

-- what stands in one list is paired with what stands in another
pub across_by : (R : Evaluation → Evaluation → Type 0) (xs ys : List Evaluation)
    → ((x y : Evaluation) → 1 ≤ times x xs → 1 ≤ times y ys → R x y) → Each (λ x. Each (R x) ys) xs
across_by R xs ys f = each_from (λ x. Each (R x) ys) xs (λ x h. each_from (R x) ys (λ y k. f x y h k))

row_is_grid : (x : Evaluation) (p k m : ℕ) → times x (points_at p k m) ≡ times x (grid p 1 k m)
row_is_grid x p k zero = refl
row_is_grid x p k (suc m) = ap (λ t. one_if (is_same x (at p k)) + t) (row_is_grid x p (suc k) m)

in_row : (x : Evaluation) (p k m : ℕ) → 1 ≤ times x (points_at p k m) → (p ≤ x.position) × (x.position < suc p) × (k ≤ x.point) × (x.point < k + m)
in_row x p k m h =
    counted x (points_at p k m) p (suc p) k (k + m) (row_is_grid x p k m ∙ count_grid x p 1 (suc p) k m (k + m) (omega arith) refl) h

row_ascends : (p k m : ℕ) → Pairs (λ x y. is_earlier x y ≡ true) (points_at p k m)
row_ascends p k zero = tt
row_ascends p k (suc m) = (
  each_from (λ y. is_earlier (at p k) y ≡ true) (points_at p (suc k) m) (λ y h.
      let w = in_row y p (suc k) m h in let a = w.0 in let b = w.1 in let c = w.2 in grind (arith, nat_tests)),
  row_ascends p (suc k) m,
)

-- each evaluation of a grid is earlier than all behind it
pub grid_ascends : (p n k m : ℕ) → Pairs (λ x y. is_earlier x y ≡ true) (grid p n k m)
grid_ascends p zero k m = tt
grid_ascends p (suc n) k m =
    pairs_append (λ x y. is_earlier x y ≡ true) (points_at p k m) (grid (suc p) n k m) (row_ascends p k m) (grid_ascends (suc p) n k m)
    (across_by (λ x y. is_earlier x y ≡ true) (points_at p k m) (grid (suc p) n k m) (λ x y h g.
    let v = in_row x p k m h in let a = v.1 in
    let w = counted y (grid (suc p) n k m) (suc p) (suc p + n) k (k + m) (count_grid y (suc p) n (suc p + n) k m (k + m) refl refl) g in
    let b = w.0 in grind (arith, nat_tests)))

-- index order is a linear extension of an order that goes forward
pub index_order_extends : (before : Evaluation → Evaluation → Bool) (n first m : ℕ) → GoesForward (is_within 0 n first (first + m)) before
    → IsLinearExtension (is_within 0 n first (first + m)) before (index_order n first m)
index_order_extends before n first m forward =
    let once : (x : Evaluation) → times x (grid 0 n first m) ≡ one_if (is_within 0 n first (first + m) x) =
    λ x. count_grid x 0 n n first m (first + m) (omega arith) refl in
    record {
      each_once = once;
      in_order = pairs_by (λ x y. is_earlier x y ≡ true) (λ x y. before y x ≡ false) (grid 0 n first m) (grid_ascends 0 n first m) (λ x y h g earlier.
          forward x y (is_counted x (grid 0 n first m) (is_within 0 n first (first + m) x) (once x) h)
          (is_counted y (grid 0 n first m) (is_within 0 n first (first + m) y) (once y) g) earlier);
    }

-- a linear extension has the outcome of index order
pub extensions_agree : {S : Type 0} (step : Evaluation → S → Option S) (before : Evaluation → Evaluation → Bool) (n first m : ℕ)
    → ((x y : Evaluation) → is_within 0 n first (first + m) x ≡ true → is_within 0 n first (first + m) y ≡ true
    → is_earlier x y ≡ true → MaySwap step before x y)
    → (l : List Evaluation) → IsLinearExtension (is_within 0 n first (first + m)) before l
    → (s : S) → run step l s ≡ run step (index_order n first m) s
extensions_agree step before n first m swap l extends s =
    let once : (x : Evaluation) → times x (grid 0 n first m) ≡ one_if (is_within 0 n first (first + m) x) =
    λ x. count_grid x 0 n n first m (first + m) (omega arith) refl in
    confluent step before (index_order n first m) l (λ y. extends.each_once y ∙ sym (once y))
    (pairs_by (λ x y. is_earlier x y ≡ true) (MaySwap step before) (grid 0 n first m) (grid_ascends 0 n first m) (λ x y h g.
    swap x y (is_counted x (grid 0 n first m) (is_within 0 n first (first + m) x) (once x) h)
    (is_counted y (grid 0 n first m) (is_within 0 n first (first + m) y) (once y) g)))
    extends.in_order s
