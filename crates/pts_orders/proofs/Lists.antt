-- What a list has in it, and how often.
use Rattle.std.proofs.Common.{◌≡◌, ◌+◌, ◌≤◌, Bool, true, false, List, [], ◌∷◌, ◌++◌, refl, ap, sym, subst, arith}
use Rattle.std.proofs.lemmas.Bool.Decides.{nat_tests}
use Rattle.pts_orders.specs.Evaluations.{Evaluation, is_same, one_if, times, Each, Pairs}

pub same_is : (x y : Evaluation) → is_same x y ≡ true → x ≡ y
same_is x y h =
    let p : x.position ≡ y.position = grind (arith, nat_tests) in
    let k : x.point ≡ y.point = grind (arith, nat_tests) in
    λ i. record { position = p i; point = k i }

pub itself : (x : Evaluation) → is_same x x ≡ true
itself x = grind (arith, nat_tests)

-- each list has its share of the count
pub times-append : (x : Evaluation) (xs ys : List Evaluation) → times x (xs ++ ys) ≡ times x xs + times x ys
times-append x [] ys = omega arith
times-append x (y ∷ xs) ys = let r = times-append x xs ys in omega arith

-- a list with x in it falls into what stands before x and what stands behind
pub split : (x : Evaluation) (l : List Evaluation) → 1 ≤ times x l → (front back : List Evaluation) × (l ≡ front ++ x ∷ back)
split x [] h = absurd (omega arith)
split x (y ∷ ys) h = by (is_same x y) refl (split x ys)
  where
    Split : List Evaluation → Type 0
    Split l = (front back : List Evaluation) × (l ≡ front ++ x ∷ back)

    by : (b : Bool) → is_same x y ≡ b → (1 ≤ times x ys → (front back : List Evaluation) × (ys ≡ front ++ x ∷ back))
        → (front back : List Evaluation) × (y ∷ ys ≡ front ++ x ∷ back)
    by true e rest = ([], ys, ap (λ z. z ∷ ys) (sym (same_is x y e)))
    by false e rest =
        let no : one_if (is_same x y) ≡ 0 = ap one_if e in
        let (front, back, same) = rest (omega arith) in
        (y ∷ front, back, ap (λ l. y ∷ l) same)

-- a fact of each evaluation that is in the list
pub each_from : (P : Evaluation → Type 0) (xs : List Evaluation) → ((y : Evaluation) → 1 ≤ times y xs → P y) → Each P xs
each_from P [] f = tt
each_from P (x ∷ xs) f =
    let here : one_if (is_same x x) ≡ 1 = ap one_if (itself x) in
    (f x (omega arith), each_from P xs (λ y h. f y (omega arith)))

pub each_at : (P : Evaluation → Type 0) (xs : List Evaluation) → Each P xs → (y : Evaluation) → 1 ≤ times y xs → P y
each_at P [] h y t = absurd (omega arith)
each_at P (x ∷ xs) h y t = by (is_same y x) refl (each_at P xs h.1 y)
  where
    by : (b : Bool) → is_same y x ≡ b → (1 ≤ times y xs → P y) → P y
    by true e rest = subst P (sym (same_is y x e)) h.0
    by false e rest = let no : one_if (is_same y x) ≡ 0 = ap one_if e in rest (omega arith)

pub each_append : (P : Evaluation → Type 0) (xs ys : List Evaluation) → Each P xs → Each P ys → Each P (xs ++ ys)
each_append P [] ys h k = k
each_append P (x ∷ xs) ys h k = (h.0, each_append P xs ys h.1 k)

pub each_front : (P : Evaluation → Type 0) (xs ys : List Evaluation) → Each P (xs ++ ys) → Each P xs
each_front P [] ys h = tt
each_front P (x ∷ xs) ys h = (h.0, each_front P xs ys h.1)

pub each_back : (P : Evaluation → Type 0) (xs ys : List Evaluation) → Each P (xs ++ ys) → Each P ys
each_back P [] ys h = h
each_back P (x ∷ xs) ys h = each_back P xs ys h.1

pub each_weaker : (P Q : Evaluation → Type 0) → ((x : Evaluation) → P x → Q x) → (xs : List Evaluation) → Each P xs → Each Q xs
each_weaker P Q f [] h = tt
each_weaker P Q f (x ∷ xs) h = (f x h.0, each_weaker P Q f xs h.1)

pub each_both : (P Q R : Evaluation → Type 0) → ((x : Evaluation) → P x → Q x → R x) → (xs : List Evaluation) → Each P xs → Each Q xs → Each R xs
each_both P Q R f [] h k = tt
each_both P Q R f (x ∷ xs) h k = (f x h.0 k.0, each_both P Q R f xs h.1 k.1)

-- ---- pairs

pub pairs_weaker : (P : Evaluation → Type 0) (R Q : Evaluation → Evaluation → Type 0) → ((x y : Evaluation) → P x → P y → R x y → Q x y)
    → (xs : List Evaluation) → Each P xs → Pairs R xs → Pairs Q xs
pairs_weaker P R Q f [] e h = tt
pairs_weaker P R Q f (x ∷ xs) e h = (each_both P (R x) (Q x) (λ y. f x y e.0) xs e.1 h.0, pairs_weaker P R Q f xs e.1 h.1)

pub pairs_append : (R : Evaluation → Evaluation → Type 0) (xs ys : List Evaluation) → Pairs R xs → Pairs R ys
    → Each (λ x. Each (R x) ys) xs → Pairs R (xs ++ ys)
pairs_append R [] ys h k e = k
pairs_append R (x ∷ xs) ys h k e = (each_append (R x) xs ys h.0 e.0, pairs_append R xs ys h.1 k e.1)

-- what stands before x is paired with it
pub pairs_to : (R : Evaluation → Evaluation → Type 0) (front : List Evaluation) (x : Evaluation) (back : List Evaluation)
    → Pairs R (front ++ x ∷ back) → Each (λ y. R y x) front
pairs_to R [] x back h = tt
pairs_to R (y ∷ front) x back h = (let e = each_back (R y) front (x ∷ back) h.0 in e.0, pairs_to R front x back h.1)

-- pairs stay where x is taken out
pub pairs_without : (R : Evaluation → Evaluation → Type 0) (front : List Evaluation) (x : Evaluation) (back : List Evaluation)
    → Pairs R (front ++ x ∷ back) → Pairs R (front ++ back)
pairs_without R [] x back h = h.1
pairs_without R (y ∷ front) x back h =
    let e = each_back (R y) front (x ∷ back) h.0 in
    (each_append (R y) front back (each_front (R y) front (x ∷ back) h.0) e.1, pairs_without R front x back h.1)

-- the elements of two lists are paired where a fact of each of the one and a fact of each of the other pair them
pub across : (P Q : Evaluation → Type 0) (R : Evaluation → Evaluation → Type 0) → ((x y : Evaluation) → P x → Q y → R x y)
    → (xs ys : List Evaluation) → Each P xs → Each Q ys → Each (λ x. Each (R x) ys) xs
across P Q R f xs ys h k = each_weaker P (λ x. Each (R x) ys) (λ x p. each_weaker Q (R x) (λ y. f x y p) ys k) xs h
