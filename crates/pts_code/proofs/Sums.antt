-- How many numbers the elements of the first expressions of a list take.
use Rattle.std.proofs.Common.{◌≡◌, ℕ, zero, suc, ◌+◌, ◌<◌, ◌≤◌, List, [], ◌∷◌, length, get_or, take, map, sum, ap, ◌∙◌, arith}
use Rattle.std.proofs.lemmas.List.{take_all}
use Rattle.std.proofs.lemmas.List.Sums.{sum_by-cons}

-- how many numbers the elements of these take
abbrev pub numbers_before : {A : Type 0} → (A → ℕ) → List A → ℕ → ℕ
numbers_before c xs n = sum (map c (take n xs))

sum_first : (n : ℕ) (ns : List ℕ) → sum (n ∷ ns) ≡ n + sum ns
sum_first n ns = sum_by-cons (λ (m : ℕ). m) n ns

before_suc : {A : Type 0} (c : A → ℕ) (xs : List A) (n : ℕ) (x : A) → n < length xs → x ≡ get_or xs n x → numbers_before c xs (suc n) ≡ numbers_before c xs n + c x
before_suc c [] n x within is = absurd (omega (arith, within))
before_suc c (y ∷ ys) zero x within is = omega (arith, sum_first (c y) (map c (take 0 ys)), ap c is, sum_first (c y) [])
before_suc c (y ∷ ys) (suc n) x within is =
    omega (arith, before_suc c ys n x (omega (arith, within)) is, sum_first (c y) (map c (take (suc n) ys)), sum_first (c y) (map c (take n ys)))

pub before_one : {A : Type 0} (c : A → ℕ) (xs : List A) (n : ℕ) (x : A) → n < length xs → x ≡ get_or xs n x → numbers_before c xs (n + 1) ≡ numbers_before c xs n + c x
before_one c xs n x within is =
    let one : n + 1 ≡ suc n = omega arith in
    ap (numbers_before c xs) one ∙ before_suc c xs n x within is

pub before_all : {A : Type 0} (c : A → ℕ) (xs : List A) (n : ℕ) (x : A) → n < length xs → x ≡ get_or xs n x → numbers_before c xs n + c x ≤ sum (map c xs)
before_all c [] n x within is = absurd (omega (arith, within))
before_all c (y ∷ ys) zero x within is = omega (arith, ap c is, sum_first (c y) (map c ys))
before_all c (y ∷ ys) (suc n) x within is = omega (arith, before_all c ys n x (omega (arith, within)) is, sum_first (c y) (map c ys), sum_first (c y) (map c (take n ys)))

-- all of them
pub before_none : {A : Type 0} (c : A → ℕ) (xs : List A) (n : ℕ) → length xs ≤ n → numbers_before c xs n ≡ sum (map c xs)
before_none c xs n all = ap (λ ys. sum (map c ys)) (take_all n xs all)
