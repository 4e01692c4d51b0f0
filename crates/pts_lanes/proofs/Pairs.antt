-- Parts and places of lists that are made item by item.
use Rattle.std.proofs.Common.{◌≡◌, ℕ, ◌-◌, ◌<◌, zero, suc, Bool, false, cond, List, [], ◌∷◌, length, take, drop, length-drop, get_or, refl, ap, sym, ◌∙◌, arith}
use lib.Lanes.{chunk, zip2, sel_l}
use Rattle.std.proofs.lemmas.List.{take_all}
use Rattle.pts_lanes.specs.Kernels.{pairwise, chosen}

pub length-pairwise : {A B C : Type 0} (f : A → B → C) (xs : List A) (ys : List B) (n : ℕ) → length xs ≡ n → length ys ≡ n → length (pairwise f xs ys) ≡ n
length-pairwise f [] ys n p q = p
length-pairwise f (x ∷ xs) [] n p q = absurd (omega arith)
length-pairwise f (x ∷ xs) (y ∷ ys) n p q = omega (arith, length-pairwise f xs ys (length xs) refl (omega arith))

pub length-chosen : {A : Type 0} (mask : List Bool) (xs ys : List A) (n : ℕ) → length mask ≡ n → length xs ≡ n → length ys ≡ n → length (chosen mask xs ys) ≡ n
length-chosen [] xs ys n p q r = p
length-chosen (m ∷ mask) [] ys n p q r = absurd (omega arith)
length-chosen (m ∷ mask) (x ∷ xs) [] n p q r = absurd (omega arith)
length-chosen (m ∷ mask) (x ∷ xs) (y ∷ ys) n p q r = omega (arith, length-chosen mask xs ys (length mask) refl (omega arith) (omega arith))

take-pairwise : {A B C : Type 0} (f : A → B → C) (n : ℕ) (xs : List A) (ys : List B) → zip2 f (take n xs) (take n ys) ≡ take n (pairwise f xs ys)
take-pairwise f zero xs ys = refl
take-pairwise f (suc n) [] ys = refl
take-pairwise f (suc n) (x ∷ xs) [] = refl
take-pairwise f (suc n) (x ∷ xs) (y ∷ ys) = ap (λ l. f x y ∷ l) (take-pairwise f n xs ys)

pairwise-none : {A B C : Type 0} (f : A → B → C) (xs : List A) → zip2 f xs [] ≡ []
pairwise-none f [] = refl
pairwise-none f (x ∷ xs) = refl

take-none : {A : Type 0} (n : ℕ) → take {A = A} n [] ≡ []
take-none zero = refl
take-none (suc n) = refl

-- a part of the pairs is the pairs of the parts
pub pairwise-chunk : {A B C : Type 0} (f : A → B → C) (at n : ℕ) (xs : List A) (ys : List B) → zip2 f (chunk at n xs) (chunk at n ys) ≡ chunk at n (pairwise f xs ys)
pairwise-chunk f zero n xs ys = take-pairwise f n xs ys
pairwise-chunk {A} {B} {C} f (suc at) n [] ys = ap (λ l. zip2 f l (chunk (suc at) n ys)) (take-none {A = A} n) ∙ sym (take-none {A = C} n)
pairwise-chunk {A} {B} {C} f (suc at) n (x ∷ xs) [] = ap (λ l. zip2 f (chunk at n xs) l) (take-none {A = B} n) ∙ pairwise-none f (chunk at n xs) ∙ sym (take-none {A = C} n)
pairwise-chunk f (suc at) n (x ∷ xs) (y ∷ ys) = pairwise-chunk f at n xs ys

-- what a load of a vector reads
pub loaded : {A : Type 0} (at : ℕ) (xs : List A) → chunk 0 8 (take (length xs - at) (drop at xs)) ≡ chunk at 8 xs
loaded at xs = ap (take 8) (take_all (length xs - at) (drop at xs) (omega (arith, length-drop at xs)))

pub loaded-pairs : {A B C : Type 0} (f : A → B → C) (at : ℕ) (xs : List A) (ys : List B)
    → zip2 f (chunk 0 8 (take (length xs - at) (drop at xs))) (chunk 0 8 (take (length ys - at) (drop at ys))) ≡ chunk at 8 (pairwise f xs ys)
loaded-pairs f at xs ys = ap (λ l. zip2 f l (chunk 0 8 (take (length ys - at) (drop at ys)))) (loaded at xs) ∙ ap (zip2 f (chunk at 8 xs)) (loaded at ys) ∙ pairwise-chunk f at 8 xs ys

-- the pair at one place
pub pairwise-at : {A B C : Type 0} (f : A → B → C) (at : ℕ) (xs : List A) (ys : List B) (a : A) (b : B) → at < length xs → at < length ys
    → chunk at 1 (pairwise f xs ys) ≡ f (get_or xs at a) (get_or ys at b) ∷ []
pairwise-at f at [] ys a b p q = absurd (omega arith)
pairwise-at f at (x ∷ xs) [] a b p q = absurd (omega arith)
pairwise-at f zero (x ∷ xs) (y ∷ ys) a b p q = refl
pairwise-at f (suc at) (x ∷ xs) (y ∷ ys) a b p q = pairwise-at f at xs ys a b (omega arith) (omega arith)

-- ---- choices

take-chosen : {A : Type 0} (n : ℕ) (mask : List Bool) (xs ys : List A) → sel_l (take n mask) (take n xs) (take n ys) ≡ take n (chosen mask xs ys)
take-chosen zero mask xs ys = refl
take-chosen (suc n) [] xs ys = refl
take-chosen (suc n) (m ∷ mask) [] ys = refl
take-chosen (suc n) (m ∷ mask) (x ∷ xs) [] = refl
take-chosen (suc n) (m ∷ mask) (x ∷ xs) (y ∷ ys) = ap (λ l. cond m x y ∷ l) (take-chosen n mask xs ys)

-- a part of the choices is the choices of the parts, for lists of one length
pub chosen-chunk : {A : Type 0} (at n : ℕ) (mask : List Bool) (xs ys : List A) → length mask ≡ length ys → length xs ≡ length ys
    → sel_l (chunk at n mask) (chunk at n xs) (chunk at n ys) ≡ chunk at n (chosen mask xs ys)
chosen-chunk zero n mask xs ys p q = take-chosen n mask xs ys
chosen-chunk {A} (suc at) n [] xs ys p q = ap (λ l. sel_l l (chunk (suc at) n xs) (chunk (suc at) n ys)) (take-none {A = Bool} n) ∙ sym (take-none {A = A} n)
chosen-chunk (suc at) n (m ∷ mask) [] [] p q = absurd (omega arith)
chosen-chunk (suc at) n (m ∷ mask) [] (y ∷ ys) p q = absurd (omega arith)
chosen-chunk (suc at) n (m ∷ mask) (x ∷ xs) [] p q = absurd (omega arith)
chosen-chunk (suc at) n (m ∷ mask) (x ∷ xs) (y ∷ ys) p q = chosen-chunk at n mask xs ys (omega arith) (omega arith)

-- the choice at one place
pub chosen-at : {A : Type 0} (at : ℕ) (mask : List Bool) (xs ys : List A) (a b : A) → at < length mask → at < length xs → at < length ys
    → chunk at 1 (chosen mask xs ys) ≡ cond (get_or mask at false) (get_or xs at a) (get_or ys at b) ∷ []
chosen-at at [] xs ys a b p q r = absurd (omega arith)
chosen-at at (m ∷ mask) [] ys a b p q r = absurd (omega arith)
chosen-at at (m ∷ mask) (x ∷ xs) [] a b p q r = absurd (omega arith)
chosen-at zero (m ∷ mask) (x ∷ xs) (y ∷ ys) a b p q r = refl
chosen-at (suc at) (m ∷ mask) (x ∷ xs) (y ∷ ys) a b p q r = chosen-at at mask xs ys a b (omega arith) (omega arith) (omega arith)
