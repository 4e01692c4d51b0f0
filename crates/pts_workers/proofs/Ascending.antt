-- Ascending lists of numbers below a limit.
use Rattle.std.proofs.Common.{◌≡◌, ℕ, zero, suc, ◌+◌, ◌<◌, ◌≤◌, List, [], ◌∷◌, ◌++◌, length, sym, subst, arith}
use Rattle.std.specs.Prelude.{All}
use Rattle.std.specs.List.{slice_index}
use Rattle.std.specs.List.Sorted.{IsStrictlyIncreasing}
use Rattle.std.proofs.lemmas.List.Elements.{All-tail, All-push}

-- a number stands no further behind than it is large
pub no_less : (xs : List ℕ) → IsStrictlyIncreasing xs → (k : ℕ) → k < length xs → k ≤ slice_index xs k
no_less xs up zero l = omega arith
no_less xs up (suc k) l =
    let before = no_less xs up k (omega (arith, l)) in
    let more = up k (omega (arith, l)) in
    let next : k + 1 ≡ suc k = omega arith in
    let more' : slice_index xs k < slice_index xs (suc k) = subst (λ n. slice_index xs k < slice_index xs n) next more in
    omega (arith, before, more')

-- so there are no more numbers than the limit
pub no_more_than : (xs : List ℕ) (limit : ℕ) → IsStrictlyIncreasing xs → All (λ x. x < limit) xs → length xs ≤ limit
no_more_than [] limit up below = omega arith
no_more_than (x ∷ xs) limit up below =
    let l : length xs < length (x ∷ xs) = omega arith in
    let a = no_less (x ∷ xs) up (length xs) l in
    let b : slice_index (x ∷ xs) (length xs) < limit = below (length xs) 0 l in
    omega (arith, a, b)

rest_ascends : (x : ℕ) (xs : List ℕ) → IsStrictlyIncreasing (x ∷ xs) → IsStrictlyIncreasing xs
rest_ascends x xs up k l =
    let next : suc k + 1 ≡ suc (k + 1) = omega arith in
    subst (λ n. slice_index xs k < slice_index (x ∷ xs) n) next (up (suc k) (omega (arith, l)))

-- one more draw keeps the list ascending, and below the limit
pub ascends_more : (xs : List ℕ) (x : ℕ) → IsStrictlyIncreasing xs → All (λ y. y < x) xs → IsStrictlyIncreasing (xs ++ x ∷ [])
ascends_more [] x up below k l = absurd (omega (arith, l))
ascends_more (y ∷ []) x up below zero l = below 0 0 (omega arith)
ascends_more (y ∷ []) x up below (suc k) l = absurd (omega (arith, l))
ascends_more (y ∷ z ∷ zs) x up below zero l = up 0 (omega arith)
ascends_more (y ∷ z ∷ zs) x up below (suc k) l =
    let next : suc k + 1 ≡ suc (k + 1) = omega arith in
    let behind = ascends_more (z ∷ zs) x (rest_ascends y (z ∷ zs) up) (All-tail (λ w. w < x) y (z ∷ zs) below) k (omega (arith, l)) in
    subst (λ n. slice_index ((z ∷ zs) ++ x ∷ []) k < slice_index (y ∷ ((z ∷ zs) ++ x ∷ [])) n) (sym next) behind

pub below_more : (xs : List ℕ) (x limit : ℕ) → All (λ y. y < limit) xs → x < limit → All (λ y. y < limit) (xs ++ x ∷ [])
below_more xs x limit below l = All-push (λ y. y < limit) xs x below l
