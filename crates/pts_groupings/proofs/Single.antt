-- One worker's grouping: one group of all chunks in order.
use Rattle.std.proofs.Common.{◌≡◌, ℕ, zero, suc, ◌+◌, ◌<◌, ◌≤◌, cond, List, [], ◌∷◌, length, refl, sym, ap, subst, ◌∙◌, ⊎_elim, arith}
use Rattle.std.specs.Prelude.{eqb, ltb}
use Rattle.std.specs.List.{range_with_len, slice_index}
use Rattle.std.specs.List.Sorted.{IsStrictlyIncreasing}
use Rattle.std.proofs.lemmas.Bool.{cases_eq}
use Rattle.std.proofs.lemmas.Bool.Decides.{nat_tests}
use Rattle.std.proofs.lemmas.List.{append-nil}
use Rattle.std.proofs.lemmas.List.Elements.{All-nil, All-cons, All-head}
use Rattle.std.proofs.lemmas.List.FromFn.{get_or-range_with_len, length-range_with_len}
use Rattle.pts_groupings.specs.Chunks.{times, IsGrouping, single_group}
use Rattle.pts_groupings.proofs.Orders.{times-count_up, times-range}

-- ---- ascending lists

rest_ascends : (x : ℕ) (xs : List ℕ) → IsStrictlyIncreasing (x ∷ xs) → IsStrictlyIncreasing xs
rest_ascends x xs up k l =
    let next : suc k + 1 ≡ suc (k + 1) = omega arith in
    subst (λ n. slice_index xs k < slice_index (x ∷ xs) n) next (up (suc k) (omega (arith, l)))

-- 1 where two numbers are one, and else 0
abbrev agrees : ℕ → ℕ → ℕ
agrees c x = cond (eqb c x) 1 0

own_once : (x : ℕ) → agrees x x ≡ 1
own_once x = grind (arith, nat_tests)

other_never : (c x : ℕ) → (c ≡ x → ⊥) → agrees c x ≡ 0
other_never c x other = grind (arith, nat_tests)

-- what stands behind the head of an ascending list is above it
above_head : (xs : List ℕ) (x c : ℕ) → IsStrictlyIncreasing (x ∷ xs) → 1 ≤ times c xs → x < c
above_head [] x c up h = absurd (omega (arith, h))
above_head (y ∷ ys) x c up h =
    let first : x < y = up 0 (omega arith) in
    ⊎_elim (λ (e : c ≡ y). let l : x < c = omega (arith, first, e) in l)
    (λ (other : c ≡ y → ⊥).
    let not_here = other_never c y other in
    let behind = above_head ys y c (rest_ascends x (y ∷ ys) up) (omega (arith, h, not_here)) in
    omega (arith, first, behind))
    (cases_eq c y)

-- an ascending list with each of the numbers in a row once is these numbers in their order
in_their_order : (xs : List ℕ) (a n : ℕ) → IsStrictlyIncreasing xs → ((c : ℕ) → times c xs ≡ times c (range_with_len a n)) → xs ≡ range_with_len a n
in_their_order [] a zero up same = refl
in_their_order [] a (suc n) up same = absurd (let e = same a in let own = own_once a in omega (arith, e, own))
in_their_order (x ∷ xs) a zero up same = absurd (let e = same x in let own = own_once x in omega (arith, e, own))
in_their_order (x ∷ xs) a (suc n) up same =
    let least : a ≤ x = least_of (same x) in
    let first : x ≡ a =
    ⊎_elim (λ (e : a ≡ x). sym e)
    (λ (other : a ≡ x → ⊥).
    let not_here = other_never a x other in
    let own = own_once a in
    let e = same a in
    let behind = above_head xs x a up (omega (arith, e, not_here, own)) in
    absurd (omega (arith, behind, least)))
    (cases_eq a x) in
    let rest = in_their_order xs (a + 1) n (rest_ascends x xs up) (λ c. tail_same c (ap (agrees c) first) (same c)) in
    ap (λ y. y ∷ xs) first ∙ ap (λ l. a ∷ l) rest
  where
    least_of : times x (x ∷ xs) ≡ times x (range_with_len a (suc n)) → a ≤ x
    least_of e = let own = own_once x in let r = times-range x a (suc n) in grind (arith, nat_tests)

    tail_same : (c : ℕ) → agrees c x ≡ agrees c a → times c (x ∷ xs) ≡ times c (range_with_len a (suc n)) → times c xs ≡ times c (range_with_len (a + 1) n)
    tail_same c e e' = omega (arith, e, e')

-- ---- the grouping

none_below : (n : ℕ) → times 0 [] ≡ cond (ltb 0 n) 1 0 → n ≡ 0
none_below n e = grind (arith, nat_tests)

one_list : (chunks : ℕ) (group : List ℕ) → 1 ≤ length group → group ≡ range_with_len 0 chunks → group ∷ [] ≡ single_group chunks
one_list zero group some e = absurd (let e' = ap length e in omega (arith, some, e'))
one_list (suc chunks) group some e = ap (λ l. l ∷ []) e

-- a grouping among one worker is the one group in order
pub only_grouping : (chunks : ℕ) (groups : List (List ℕ)) → IsGrouping 1 chunks groups → groups ≡ single_group chunks
only_grouping chunks [] g = ap single_group (sym (none_below chunks (g.each_once 0)))
only_grouping chunks (group ∷ []) g =
    one_list chunks group (All-head (λ l. 1 ≤ length l) group [] g.none_empty)
    (in_their_order group 0 chunks (All-head IsStrictlyIncreasing group [] g.ascending)
    (λ c. sym (ap (times c) (append-nil group)) ∙ g.each_once c ∙ sym (times-count_up c chunks)))
only_grouping chunks (group ∷ next ∷ more) g = absurd (let few = g.few in omega (arith, few))

range_ascends : (a n : ℕ) → IsStrictlyIncreasing (range_with_len a n)
range_ascends a n k l =
    let count = length-range_with_len a n in
    let e = get_or-range_with_len a n k 0 (omega (arith, l, count)) in
    let e' = get_or-range_with_len a n (k + 1) 0 (omega (arith, l, count)) in
    omega (arith, e, e')

-- that is a grouping, among any workers
pub single_is_grouping : (workers chunks : ℕ) → 1 ≤ workers → IsGrouping workers chunks (single_group chunks)
single_is_grouping workers zero some = record {
  each_once = λ c. grind (arith, nat_tests);
  none_empty = All-nil (λ l. 1 ≤ length l);
  few = omega arith;
  ascending = All-nil IsStrictlyIncreasing;
}
single_is_grouping workers (suc chunks) some = record {
  each_once = λ c. ap (times c) (append-nil (range_with_len 0 (suc chunks))) ∙ times-count_up c (suc chunks);
  none_empty = All-cons (λ l. 1 ≤ length l) (range_with_len 0 (suc chunks)) [] (omega arith) (All-nil (λ l. 1 ≤ length l));
  few = omega (arith, some);
  ascending = All-cons IsStrictlyIncreasing (range_with_len 0 (suc chunks)) [] (range_ascends 0 (suc chunks)) (All-nil IsStrictlyIncreasing);
}
