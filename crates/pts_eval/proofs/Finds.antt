-- The first element that passes a test, along a list.
use Rattle.std.proofs.Common.{◌≡◌, ℕ, zero, suc, ◌+◌, ◌<◌, ◌≤◌, Bool, true, false, Option, Some, None, List, [], ◌∷◌, length, take, get_or, refl, ap, ◌∙◌, arith}
use Rattle.std.specs.Prelude.{cond, find}

-- what comes of the test of one element
passed : {A : Type 0} (b : Bool) (x : A) (rest : Option A) → b ≡ true → cond b (Some x) rest ≡ Some x
passed true x rest h = refl
passed false x rest h = absurd (cc)

failed : {A : Type 0} (b : Bool) (x : A) (rest : Option A) → b ≡ false → cond b (Some x) rest ≡ rest
failed true x rest h = absurd (cc)
failed false x rest h = refl

none_before : {A : Type 0} (b : Bool) (x : A) (rest : Option A) → cond b (Some x) rest ≡ None → (b ≡ false) × (rest ≡ None)
none_before true x rest h = absurd (cc)
none_before false x rest h = (refl, h)

-- one more element fails the test
pub find_step : {A : Type 0} (test : A → Bool) (xs : List A) (i : ℕ) (d : A) → i < length xs → find test (take i xs) ≡ None → test (get_or xs i d) ≡ false → find test (take (i + 1) xs) ≡ None
find_step test [] i d within none fails = absurd (omega (arith, within))
find_step test (x ∷ xs) zero d within none fails = failed (test x) x None fails
find_step test (x ∷ xs) (suc i) d within none fails =
    let before = none_before (test x) x (find test (take i xs)) none in
    let e : suc i + 1 ≡ suc (i + 1) = omega arith in
    ap (λ m. find test (take m (x ∷ xs))) e ∙ failed (test x) x (find test (take (i + 1) xs)) before.0 ∙ find_step test xs i d (omega (arith, within)) before.1 fails

-- an element passes the test, and none before it
pub find_here : {A : Type 0} (test : A → Bool) (xs : List A) (i : ℕ) (d : A) → i < length xs → find test (take i xs) ≡ None → test (get_or xs i d) ≡ true → find test xs ≡ Some (get_or xs i d)
find_here test [] i d within none passes = absurd (omega (arith, within))
find_here test (x ∷ xs) zero d within none passes = passed (test x) x (find test xs) passes
find_here test (x ∷ xs) (suc i) d within none passes =
    let before = none_before (test x) x (find test (take i xs)) none in
    failed (test x) x (find test xs) before.0 ∙ find_here test xs i d (omega (arith, within)) before.1 passes

-- all elements fail the test
pub find_none : {A : Type 0} (test : A → Bool) (xs : List A) (i : ℕ) → find test (take i xs) ≡ None → length xs ≤ i → find test xs ≡ None
find_none test [] i none past = refl
find_none test (x ∷ xs) zero none past = absurd (omega (arith, past))
find_none test (x ∷ xs) (suc i) none past =
    let before = none_before (test x) x (find test (take i xs)) none in
    failed (test x) x (find test xs) before.0 ∙ find_none test xs i before.1 (omega (arith, past))
