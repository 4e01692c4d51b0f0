-- Chunks in the order of a grouping: what they hold is a permutation of the list.
use Rattle.std.proofs.Common.{◌≡◌, ℕ, zero, suc, ◌+◌, ◌<◌, ◌≤◌, Bool, true, false, cond, List, [], ◌∷◌, ◌++◌, length, refl, sym, ap, subst, ◌∙◌, append_assoc, arith}
use Rattle.std.specs.Prelude.{eqb, ltb}
use Rattle.std.specs.List.{flat_map, range_with_len, All}
use Rattle.std.specs.List.Sorted.{IsPermutation}
use Rattle.std.proofs.lemmas.Bool.Decides.{nat_tests}
use Rattle.std.proofs.lemmas.Grind.{flat_map-append}
use Rattle.std.proofs.lemmas.List.{length-append}
use Rattle.std.proofs.lemmas.List.Elements.{All-nil, All-cons, All-head, All-tail}
use Rattle.std.proofs.lemmas.List.Sorted.{IsPermutation-refl, IsPermutation-trans, IsPermutation-append_left, IsPermutation-append_right, IsPermutation-append_comm}
use Rattle.pts_groupings.specs.Chunks.{chunk, chunk_count, times, IsGrouping}
use Rattle.pts_groupings.proofs.Chunks.{all_chunks, length-chunk}

-- ---- how often a number stands

pub times-append : (x : ℕ) (xs ys : List ℕ) → times x (xs ++ ys) ≡ times x xs + times x ys
times-append x [] ys = omega arith
times-append x (y ∷ xs) ys = let r = times-append x xs ys in omega (arith, r)

pub times-range : (x a n : ℕ) → times x (range_with_len a n) ≡ cond (ltb x a) 0 (cond (ltb x (a + n)) 1 0)
times-range x a zero = grind (arith, nat_tests)
times-range x a (suc n) = let r = times-range x (a + 1) n in grind (arith, nat_tests)

pub times-count_up : (x n : ℕ) → times x (range_with_len 0 n) ≡ cond (ltb x n) 1 0
times-count_up x n = let r = times-range x 0 n in grind (arith, nat_tests)

times_own : (x : ℕ) (xs : List ℕ) → 1 ≤ times x (x ∷ xs)
times_own x xs = grind (arith, nat_tests)

-- a list cut at a number that stands in it
record Cut (x : ℕ) (xs : List ℕ) : Type 0 where
  front : List ℕ
  back : List ℕ
  is : xs ≡ front ++ x ∷ back

cut_here : (x y : ℕ) (ys : List ℕ) (b : Bool) → eqb x y ≡ b → 1 ≤ cond b 1 0 + times x ys → (1 ≤ times x ys → Cut x ys) → Cut x (y ∷ ys)
cut_here x y ys true e h later = record { front = []; back = ys; is = ap (λ z. z ∷ ys) (let e' : y ≡ x = grind (arith, nat_tests) in e') }
cut_here x y ys false e h later =
    let cut = later (omega (arith, h)) in
    record { front = y ∷ cut.front; back = cut.back; is = ap (λ l. y ∷ l) cut.is }

cut_at : (x : ℕ) (xs : List ℕ) → 1 ≤ times x xs → Cut x xs
cut_at x [] h = absurd (omega (arith, h))
cut_at x (y ∷ ys) h = cut_here x y ys (eqb x y) refl h (cut_at x ys)

-- ---- parts by numbers, in two orders

none_stand : (xs : List ℕ) → ((y : ℕ) → times y xs ≡ 0) → xs ≡ []
none_stand [] h = refl
none_stand (x ∷ xs) h = absurd (let e = h x in let l = times_own x xs in omega (arith, e, l))

put_first : {A : Type 0} (f : ℕ → List A) (x : ℕ) (all front back : List ℕ) → IsPermutation (flat_map f all) (flat_map f (front ++ back))
    → IsPermutation (f x ++ flat_map f all) (flat_map f (front ++ x ∷ back))
put_first f x all front back h =
    let before = flat_map f front in
    let behind = flat_map f back in
    let first : IsPermutation (f x ++ flat_map f all) (f x ++ (before ++ behind)) =
    IsPermutation-append_right (f x) (flat_map f all) (before ++ behind) (subst (IsPermutation (flat_map f all)) (flat_map-append f front back) h) in
    let turned : IsPermutation ((f x ++ before) ++ behind) ((before ++ f x) ++ behind) =
    IsPermutation-append_left behind (f x ++ before) (before ++ f x) (IsPermutation-append_comm (f x) before) in
    let from : (f x ++ before) ++ behind ≡ f x ++ (before ++ behind) = append_assoc (f x) before behind in
    let to : (before ++ f x) ++ behind ≡ flat_map f (front ++ x ∷ back) = append_assoc before (f x) behind ∙ sym (flat_map-append f front (x ∷ back)) in
    IsPermutation-trans _ _ _ first (subst (λ l. IsPermutation l (flat_map f (front ++ x ∷ back))) from
    (subst (IsPermutation ((f x ++ before) ++ behind)) to turned))

-- one number less in both lists
one_less : (x : ℕ) (all front back xs : List ℕ) → xs ≡ front ++ x ∷ back → ((y : ℕ) → times y xs ≡ times y (x ∷ all)) → (y : ℕ)
    → times y (front ++ back) ≡ times y all
one_less x all front back xs is same y =
    let e = same y in
    let e' = ap (times y) is in
    let both = times-append y front (x ∷ back) in
    let less = times-append y front back in
    omega (arith, e, e', both, less)

pub same_parts : {A : Type 0} (f : ℕ → List A) (all xs : List ℕ) → ((y : ℕ) → times y xs ≡ times y all) → IsPermutation (flat_map f all) (flat_map f xs)
same_parts f [] xs same = subst (λ l. IsPermutation [] (flat_map f l)) (sym (none_stand xs same)) (IsPermutation-refl [])
same_parts f (x ∷ all) xs same =
    let cut = cut_at x xs (let e = same x in let l = times_own x all in omega (arith, e, l)) in
    subst (λ l. IsPermutation (f x ++ flat_map f all) (flat_map f l)) (sym cut.is)
    (put_first f x all cut.front cut.back (same_parts f all (cut.front ++ cut.back) (one_less x all cut.front cut.back xs cut.is same)))

-- ---- groupings

pub flat_map-flat : {A : Type 0} (f : ℕ → List A) (groups : List (List ℕ)) → flat_map (flat_map f) groups ≡ flat_map f (flat_map (λ group. group) groups)
flat_map-flat f [] = refl
flat_map-flat f (group ∷ groups) =
    ap (λ l. flat_map f group ++ l) (flat_map-flat f groups) ∙ sym (flat_map-append f group (flat_map (λ g. g) groups))

-- what the groups hold is a permutation of the list
pub grouped : {A : Type 0} (workers size : ℕ) (items : List A) (groups : List (List ℕ)) → 0 < size → IsGrouping workers (chunk_count (length items) size) groups
    → IsPermutation items (flat_map (flat_map (chunk size items)) groups)
grouped workers size items groups some g =
    let count = chunk_count (length items) size in
    let same : (y : ℕ) → times y (flat_map (λ group. group) groups) ≡ times y (range_with_len 0 count) = λ y. g.each_once y ∙ sym (times-count_up y count) in
    let moved = same_parts (chunk size items) (range_with_len 0 count) (flat_map (λ group. group) groups) same in
    subst (IsPermutation items) (sym (flat_map-flat (chunk size items) groups))
    (subst (λ l. IsPermutation l (flat_map (chunk size items) (flat_map (λ group. group) groups))) (all_chunks size items some) moved)

part_some : {A : Type 0} (size : ℕ) (items : List A) (group others : List ℕ) → 0 < size
    → ((c : ℕ) → 1 ≤ times c (group ++ others) → c < chunk_count (length items) size) → 1 ≤ length group → 1 ≤ length (flat_map (chunk size items) group)
part_some size items [] others some below one = absurd (omega (arith, one))
part_some size items (c ∷ cs) others some below one =
    let l = length-chunk size items c some (below c (times_own c (cs ++ others))) in
    let e = length-append (chunk size items c) (flat_map (chunk size items) cs) in
    omega (arith, l, e)

later_below : (count : ℕ) (group others : List ℕ) → ((c : ℕ) → 1 ≤ times c (group ++ others) → c < count) → (c : ℕ) → 1 ≤ times c others → c < count
later_below count group others below c h = below c (let e = times-append c group others in omega (arith, e, h))

groups_some : {A : Type 0} (size : ℕ) (items : List A) (groups : List (List ℕ)) → 0 < size
    → ((c : ℕ) → 1 ≤ times c (flat_map (λ group. group) groups) → c < chunk_count (length items) size) → All (λ group. 1 ≤ length group) groups
    → All (λ group. 1 ≤ length (flat_map (chunk size items) group)) groups
groups_some size items [] some below all = All-nil (λ group. 1 ≤ length (flat_map (chunk size items) group))
groups_some size items (group ∷ groups) some below all =
    let others = flat_map (λ g. g) groups in
    All-cons (λ g. 1 ≤ length (flat_map (chunk size items) g)) group groups
    (part_some size items group others some below (All-head (λ g. 1 ≤ length g) group groups all))
    (groups_some size items groups some (later_below (chunk_count (length items) size) group others below) (All-tail (λ g. 1 ≤ length g) group groups all))

once_is_below : (c count : ℕ) → 1 ≤ cond (ltb c count) 1 0 → c < count
once_is_below c count h = grind (arith, nat_tests)

-- each group has items
pub each_some : {A : Type 0} (workers size : ℕ) (items : List A) (groups : List (List ℕ)) → 0 < size
    → IsGrouping workers (chunk_count (length items) size) groups
    → All (λ group. 1 ≤ length (flat_map (chunk size items) group)) groups
each_some workers size items groups some g =
    groups_some size items groups some
    (λ c h. once_is_below c (chunk_count (length items) size) (let e = g.each_once c in omega (arith, e, h))) g.none_empty
