-- Inductions that stay in their kinds.
use Rattle.std.proofs.Common.{◌≡◌, ℕ, zero, suc, ◌+◌, ◌-◌, ◌<◌, ◌≤◌, Bool, true, false, ◌&&◌, List, length, get_or, drop, refl, ap, sym, ◌∙◌, arith}
use Rattle.std.specs.List.{list_all, range_with_len}
use Rattle.std.proofs.lemmas.List.{at_drop_more}
use Rattle.pts_lowering.specs.declared.forms.LoopClause.{LoopClause}
use Rattle.pts_store.specs.Stores.{Store}
use Rattle.pts_passes.specs.Inductions.{clause_stays}

-- the first of what is left, and the rest
one_and_rest : (P : ℕ → Bool) (p end : ℕ) → p < end → list_all P (range_with_len p (end - p)) ≡ (P p && list_all P (range_with_len (p + 1) (end - (p + 1))))
one_and_rest P p end h = ap (λ n. list_all P (range_with_len p n)) (let more : end - p ≡ suc (end - (p + 1)) = omega (arith, h) in more)

pub goes_on : (P : ℕ → Bool) (p end : ℕ) (all : Bool) → p < end → P p ≡ true → list_all P (range_with_len p (end - p)) ≡ all → list_all P (range_with_len (p + 1) (end - (p + 1))) ≡ all
goes_on P p end all h is so_far = sym (one_and_rest P p end h ∙ ap (λ b. b && list_all P (range_with_len (p + 1) (end - (p + 1)))) is) ∙ so_far

pub leaves : (P : ℕ → Bool) (p end : ℕ) (all : Bool) → p < end → P p ≡ false → list_all P (range_with_len p (end - p)) ≡ all → false ≡ all
leaves P p end all h is so_far = sym (one_and_rest P p end h ∙ ap (λ b. b && list_all P (range_with_len (p + 1) (end - (p + 1)))) is) ∙ so_far

pub none_left : (P : ℕ → Bool) (p end : ℕ) (all : Bool) → end ≤ p → list_all P (range_with_len p (end - p)) ≡ all → true ≡ all
none_left P p end all h so_far = sym (ap (λ n. list_all P (range_with_len p n)) (let none : end - p ≡ 0 = omega (arith, h) in none)) ∙ so_far

one_more : (P : ℕ → Bool) (a n : ℕ) → list_all P (range_with_len a (n + 1)) ≡ (list_all P (range_with_len a n) && P (a + n))
one_more P a zero = and_true (P a) ∙ ap P sum
  where
    sum : a ≡ a + 0
    sum = omega arith

    and_true : (b : Bool) → (b && true) ≡ b
    and_true true = refl
    and_true false = refl
one_more P a (suc n) =
    ap (λ m. list_all P (range_with_len a m)) (let e : suc n + 1 ≡ suc (n + 1) = omega arith in e)
    ∙ ap (λ b. P a && b) (one_more P (a + 1) n) ∙ and_assoc (P a) (list_all P (range_with_len (a + 1) n)) (P (a + 1 + n))
    ∙ ap (λ m. list_all P (range_with_len a (suc n)) && P m) (let e : a + 1 + n ≡ a + suc n = omega arith in e)
  where
    and_assoc : (x y z : Bool) → (x && (y && z)) ≡ ((x && y) && z)
    and_assoc true y z = refl
    and_assoc false y z = refl

pub with_last : (P : ℕ → Bool) (n : ℕ) → true ≡ list_all P (range_with_len 0 n) → P n ≡ list_all P (range_with_len 0 (n + 1))
with_last P n h = ap P (let e : n ≡ 0 + n = omega arith in e) ∙ ap (λ b. b && P (0 + n)) h ∙ sym (one_more P 0 n)

pub without_last : (P : ℕ → Bool) (n : ℕ) → false ≡ list_all P (range_with_len 0 n) → false ≡ list_all P (range_with_len 0 (n + 1))
without_last P n h = ap (λ b. b && P (0 + n)) h ∙ sym (one_more P 0 n)

-- ---- clauses

module _ (store : Store) (n j : ℕ) (cs : List LoopClause) (d : LoopClause) (all : Bool) (within : j < length cs) (so_far : list_all (clause_stays store n) (drop j cs) ≡ all) where
  parts : (clause_stays store n (get_or cs j d) && list_all (clause_stays store n) (drop (j + 1) cs)) ≡ all
  parts = sym (at_drop_more (list_all (clause_stays store n)) cs j d within) ∙ so_far

  pub clause_goes : (stays : Bool) → stays ≡ true → stays ≡ clause_stays store n (get_or cs j d) → list_all (clause_stays store n) (drop (j + 1) cs) ≡ all
  clause_goes stays is same = ap (λ b. b && list_all (clause_stays store n) (drop (j + 1) cs)) (sym is ∙ same) ∙ parts

  pub clause_leaves : (stays : Bool) → stays ≡ false → stays ≡ clause_stays store n (get_or cs j d) → false ≡ all
  clause_leaves stays is same = ap (λ b. b && list_all (clause_stays store n) (drop (j + 1) cs)) (sym is ∙ same) ∙ parts
