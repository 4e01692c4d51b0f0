-- How often a number stands in a list, and the least of a list.
use Rattle.std.proofs.Common.{◌≡◌, ◌⊎◌, ℕ, zero, suc, ◌+◌, ◌<◌, ◌≤◌, Bool, true, cond, eqb, ltb, eq-eqb, ne_eqb, min, List, [], ◌∷◌, length, sym, refl, ap, ⊎_elim, arith}
use Rattle.std.specs.Prelude.{All, Contains}
use Rattle.std.proofs.lemmas.Bool.{cases_lt, cases_eq, lt-ltb, le-ltb}
use Rattle.std.proofs.lemmas.List.Elements.{All-nil, All-cons}
use Rattle.pts_boards.specs.Numbers.{none_lower, times, once_below, least_of}

-- whether two numbers are one, as a number
abbrev pub one_if : ℕ → ℕ → ℕ
one_if x y = cond (eqb x y) 1 0

pub one_if_same : (x y : ℕ) → x ≡ y → one_if x y ≡ 1
one_if_same x y e = ap (λ (b : Bool). cond b 1 0) (eq-eqb x y e)

pub one_if_other : (x y : ℕ) → (x ≡ y → ⊥) → one_if x y ≡ 0
one_if_other x y n = ap (λ (b : Bool). cond b 1 0) (ne_eqb x y n)

pub once_yes : (limit x : ℕ) → x < limit → once_below limit x ≡ 1
once_yes limit x l = ap (λ (b : Bool). cond b 1 0) (lt-ltb x limit l)

pub once_no : (limit x : ℕ) → limit ≤ x → once_below limit x ≡ 0
once_no limit x l = ap (λ (b : Bool). cond b 1 0) (le-ltb x limit l)

pub once_most : (limit x : ℕ) → once_below limit x ≤ 1
once_most limit x = ⊎_elim (λ (l : x < limit). let a = once_yes limit x l in let r : once_below limit x ≤ 1 = omega arith in r)
    (λ (l : limit ≤ x). let a = once_no limit x l in let r : once_below limit x ≤ 1 = omega arith in r) (cases_lt x limit)

pub once_lt : (limit x : ℕ) → 1 ≤ once_below limit x → x < limit
once_lt limit x some = ⊎_elim (λ (l : x < limit). l) (λ (l : limit ≤ x). let a = once_no limit x l in absurd (omega arith)) (cases_lt x limit)

-- one number more below the limit
pub once_next : (limit x : ℕ) → once_below limit x + one_if x limit ≡ once_below (limit + 1) x
once_next limit x = ⊎_elim
    (λ (l : x < limit).
    let a = once_yes limit x l in
    let b = once_yes (limit + 1) x (omega arith) in
    let c = one_if_other x limit (λ e. omega arith) in
    let r : once_below limit x + one_if x limit ≡ once_below (limit + 1) x = omega arith in r)
    (λ (l : limit ≤ x). ⊎_elim
    (λ (e : x ≡ limit).
    let a = once_no limit x l in
    let b = once_yes (limit + 1) x (omega arith) in
    let c = one_if_same x limit e in
    let r : once_below limit x + one_if x limit ≡ once_below (limit + 1) x = omega arith in r)
    (λ (n : x ≡ limit → ⊥).
    let a = once_no limit x l in
    let more : limit + 1 ≤ x = ⊎_elim (λ (m : x < limit + 1). absurd (n (omega arith))) (λ (m : limit + 1 ≤ x). m) (cases_lt x (limit + 1)) in
    let b = once_no (limit + 1) x more in
    let c = one_if_other x limit n in
    let r : once_below limit x + one_if x limit ≡ once_below (limit + 1) x = omega arith in r)
    (cases_eq x limit))
    (cases_lt x limit)

-- what holds of each number that stands in the list
pub all_times : (P : ℕ → Type 0) (xs : List ℕ) → ((x : ℕ) → 1 ≤ times x xs → P x) → All P xs
all_times P [] h = All-nil P
all_times P (y ∷ ys) h = All-cons P y ys (h y (let a = one_if_same y y refl in omega arith)) (all_times P ys (λ x some. h x (omega arith)))

pub contains_times : (x : ℕ) (xs : List ℕ) → 1 ≤ times x xs → Contains xs x
contains_times x [] some = absurd (omega arith)
contains_times x (y ∷ ys) some = ⊎_elim (λ (e : x ≡ y). (0, omega arith, sym e))
    (λ (n : x ≡ y → ⊥). let a = one_if_other x y n in let r = contains_times x ys (omega arith) in (suc r.0, (let l = r.1 in omega arith), r.2)) (cases_eq x y)

-- the list without the first x
abbrev without : ℕ → List ℕ → List ℕ
without x [] = []
without x (y ∷ ys) = cond (eqb x y) ys (y ∷ without x ys)

times_without : (x y : ℕ) (xs : List ℕ) → 1 ≤ times x xs → times y (without x xs) + one_if y x ≡ times y xs
times_without x y [] some = absurd (omega arith)
times_without x y (z ∷ zs) some = ⊎_elim
    (λ (e : x ≡ z). rw (eq-eqb x z e) (let a : one_if y x ≡ one_if y z = ap (one_if y) e in omega arith))
    (λ (n : x ≡ z → ⊥). let a = one_if_other x z n in let r = times_without x y zs (omega arith) in rw (ne_eqb x z n) (omega arith)) (cases_eq x z)

length_without : (x : ℕ) (xs : List ℕ) → 1 ≤ times x xs → length (without x xs) + 1 ≡ length xs
length_without x [] some = absurd (omega arith)
length_without x (z ∷ zs) some = ⊎_elim (λ (e : x ≡ z). rw (eq-eqb x z e) (omega arith))
    (λ (n : x ≡ z → ⊥). let a = one_if_other x z n in let r = length_without x zs (omega arith) in rw (ne_eqb x z n) (omega arith)) (cases_eq x z)

-- a list that holds each number below n once has n numbers
pub length_once : (n : ℕ) (xs : List ℕ) → ((x : ℕ) → times x xs ≡ once_below n x) → length xs ≡ n
length_once zero [] h = refl
length_once zero (y ∷ ys) h = let a = h y in let b = one_if_same y y refl in let c = once_no 0 y (omega arith) in absurd (omega arith)
length_once (suc n) xs h =
    let here : 1 ≤ times n xs = (let a = h n in let b = once_yes (suc n) n (omega arith) in omega arith) in
    let r = length_once n (without n xs) (λ x.
    (let a = times_without n x xs here in let b = h x in let c = once_next n x in let d : once_below (n + 1) x ≡ once_below (suc n) x = ap (λ (m : ℕ). once_below m x) (omega arith) in omega arith)) in
    let l = length_without n xs here in omega arith

least_most : (xs : List ℕ) → least_of xs ≤ none_lower
least_most [] = omega arith
least_most (x ∷ xs) = let r = least_most xs in omega arith

least_le : (x : ℕ) (xs : List ℕ) → 1 ≤ times x xs → least_of xs ≤ x
least_le x [] some = absurd (omega arith)
least_le x (y ∷ ys) some = ⊎_elim (λ (e : x ≡ y). let r : min y (least_of ys) ≤ x = omega arith in r)
    (λ (n : x ≡ y → ⊥). let a = one_if_other x y n in let q = least_le x ys (omega arith) in let r : min y (least_of ys) ≤ x = omega arith in r) (cases_eq x y)

le_least : (w : ℕ) (xs : List ℕ) → ((x : ℕ) → 1 ≤ times x xs → w ≤ x) → w ≤ none_lower → w ≤ least_of xs
le_least w [] h most = most
le_least w (y ∷ ys) h most = let a = h y (let a = one_if_same y y refl in omega arith) in let r = le_least w ys (λ x some. h x (omega arith)) most in omega arith

-- a lower bound that stands in the list, or is the largest `u64`, is the least
pub least_is : (w : ℕ) (xs : List ℕ) → ((x : ℕ) → 1 ≤ times x xs → w ≤ x) → (w ≡ none_lower) ⊎ (1 ≤ times w xs) → w ≤ none_lower → w ≡ least_of xs
least_is w xs below there most =
    let a = le_least w xs below most in
    let b : least_of xs ≤ w = ⊎_elim (λ (e : w ≡ none_lower). let m = least_most xs in let r : least_of xs ≤ w = omega arith in r) (λ (t : 1 ≤ times w xs). least_le w xs t) there in omega arith

pub pos_of_ltb : (n : ℕ) → ltb 0 n ≡ true → 1 ≤ n
pos_of_ltb n e = ⊎_elim (λ (l : 0 < n). l) (λ (l : n ≤ 0). let a = le-ltb 0 n l in absurd (cc)) (cases_lt 0 n)
