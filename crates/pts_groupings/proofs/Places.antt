-- Each place of a scan is the sum that the standard names for it.
use Rattle.std.proofs.Common.{◌≡◌, ℕ, zero, suc, ◌+◌, ◌-◌, ◌*◌, ◌/◌, ◌%◌, ◌<◌, ◌≤◌, Option, Some, None, List, [], ◌∷◌, ◌++◌, length, map, take, drop, refl, sym, ap, subst, ◌∙◌, ⊎_elim, arith}
use Rattle.std.specs.List.{flat_map, range_with_len, cons_option, All, Contains}
use Rattle.std.specs.Option.{option_map, MatchOption}
use Rattle.std.proofs.Math.Nat.{mul-le-mul_right, mod-lt}
use Rattle.std.proofs.lemmas.Grind.{flat_map-append}
use Rattle.std.proofs.lemmas.Nat.{div-add-mod'}
use Rattle.std.proofs.lemmas.List.{drop-map, drop-take, length-drop, length-map, length-take, map-append, take-take, take-append-drop}
use Rattle.std.proofs.lemmas.List.Elements.{All-nil, All-cons, Contains-append_left, Contains-append_right, Contains-append_cases}
use Rattle.pts_types.specs.declared.operation.Policy.{Policy}
use Rattle.pts_types.specs.declared.operation.Policy.TheVariants.{Seq}
use Rattle.pts_groupings.specs.Brackets.{Bracketing, Leaf, leaves, outcome_of, NoncommutativeSum}
use Rattle.pts_groupings.specs.Chunks.{chunk}
use Rattle.pts_groupings.specs.Sums.{folded, all_given}
use Rattle.pts_groupings.specs.Scans.{Scan, Inclusive, Exclusive, reach, belonging, HasStart, place, IsPlaceSum}
use Rattle.pts_groupings.proofs.Trees.{comb_sum, fold_sum, leaves-values, outcomes-values, part_trees, sum_as}
use Rattle.pts_groupings.proofs.Chunks.{chunk-map, chunks-joined}
use Rattle.pts_groupings.proofs.Throws.{Items, Values, Throws, items_of, folded_throws, part_throws}

-- ---- lists of numbers in a row

pub map-range_same : {B : Type 0} (f g : ℕ → B) (a n : ℕ) → ((c : ℕ) → c < a + n → f c ≡ g c) → map f (range_with_len a n) ≡ map g (range_with_len a n)
map-range_same f g a zero same = refl
map-range_same f g a (suc n) same =
    let e = same a (omega arith) in
    let e' = map-range_same f g (a + 1) n (λ c l. same c (omega (arith, l))) in
    cc

all-range : (P : ℕ → Type 0) (a n : ℕ) → ((c : ℕ) → c < a + n → P c) → All P (range_with_len a n)
all-range P a zero h = All-nil P
all-range P a (suc n) h = All-cons P a (range_with_len (a + 1) n) (h a (omega arith)) (all-range P (a + 1) n (λ c l. h c (omega (arith, l))))

-- ---- reach

reach-add : (scan : Scan) (a b : ℕ) → reach scan (a + b) ≡ a + reach scan b
reach-add Inclusive a b = omega arith
reach-add Exclusive a b = refl

reach_within : (scan : Scan) (r size : ℕ) → r < size → reach scan r ≤ size
reach_within Inclusive r size l = omega (arith, l)
reach_within Exclusive r size l = omega (arith, l)

reach_bounds : (scan : Scan) (p : ℕ) → (p ≤ reach scan p) × (reach scan p ≤ p + 1)
reach_bounds Inclusive p = (omega arith, omega arith)
reach_bounds Exclusive p = (omega arith, omega arith)

-- ---- a place's items

-- a chunk that ends before the items that were taken do
chunk_taken : {A : Type 0} (size : ℕ) (items : List A) (c n : ℕ) → (c + 1) * size ≤ n → chunk size (take n items) c ≡ chunk size items c
chunk_taken size items c n l =
    let next : (c + 1) * size ≡ c * size + size = omega arith in
    let m = n - c * size in
    let whole : n ≡ c * size + m = omega (arith, l, next) in
    ap (λ k. take size (drop (c * size) (take k items))) whole
    ∙ ap (take size) (drop-take (c * size) m items)
    ∙ take-take size m (drop (c * size) items) (omega (arith, l, next))

-- the items of a place's own chunk are the last of its items
last_part : {A : Type 0} (scan : Scan) (size : ℕ) (items : List A) (q r : ℕ) → r < size
    → take (reach scan r) (chunk size items q) ≡ drop (q * size) (take (reach scan (q * size + r)) items)
last_part scan size items q r l =
    take-take (reach scan r) size (drop (q * size) items) (reach_within scan r size l)
    ∙ sym (drop-take (q * size) (reach scan r) items)
    ∙ ap (λ k. drop (q * size) (take k items)) (sym (reach-add scan (q * size) r))

-- chunks before a place, and the items of its own chunk, are its items
pub place_items : {A : Type 0} (scan : Scan) (size : ℕ) (items : List A) (q r : ℕ) → r < size
    → flat_map (chunk size items) (range_with_len 0 q) ++ take (reach scan r) (chunk size items q) ≡ take (reach scan (q * size + r)) items
place_items scan size items q r l =
    let all = take (reach scan (q * size + r)) items in
    let bounds = reach_bounds scan (q * size + r) in
    let first : flat_map (chunk size items) (range_with_len 0 q) ≡ take (q * size) all =
    chunks-joined size items 0 q
    ∙ ap (λ k. take (q * size) (drop k items)) (let e : 0 * size ≡ 0 = omega arith in e)
    ∙ sym (take-take (q * size) (reach scan (q * size + r)) items (let b = bounds.0 in omega (arith, b))) in
    ap (λ l. l ++ take (reach scan r) (chunk size items q)) first
    ∙ ap (λ l. take (q * size) all ++ l) (last_part scan size items q r l)
    ∙ take-append-drop (q * size) all

-- ---- folds that begin with init

start_some : {V : Type 0} (scan : Scan) (init : Option V) (p : ℕ) (vs : List V) → HasStart scan init → length vs ≡ reach scan p
    → 1 ≤ length (cons_option init vs)
start_some Inclusive None p vs h e = omega (arith, e)
start_some Inclusive (Some v) p vs h e = omega arith
start_some Exclusive None p vs h e = absurd h
start_some Exclusive (Some v) p vs h e = omega arith

trees_some : {V : Type 0} (ts : List (Bracketing V)) (vs : List V) → flat_map leaves ts ≡ vs → 1 ≤ length vs → 1 ≤ length ts
trees_some [] vs e l = absurd (let e' = ap length e in omega (arith, e', l))
trees_some (t ∷ ts) vs e l = omega arith

begun_sum : {V : Type 0} (op : V → V → Option V) (init : Option V) (ts : List (Bracketing V)) (vs : List V) → flat_map leaves ts ≡ vs
    → 1 ≤ length (cons_option init vs)
    → NoncommutativeSum op (cons_option init vs) (folded op (cons_option (option_map Some init) (map (outcome_of op) ts)))
begun_sum op None ts vs e l = sum_as op _ _ _ _ (fold_sum op ts (trees_some ts vs e l)) e refl
begun_sum op (Some v) ts vs e l = sum_as op _ _ _ _ (comb_sum op (Leaf v) ts) (ap (λ l. v ∷ l) e) refl

begun_throws : {V : Type 0} (op : V → V → Option V) (init : Option V) (xs : List (Option V)) → Contains xs None
    → folded op (cons_option (option_map Some init) xs) ≡ None
begun_throws op None xs h = folded_throws op xs h
begun_throws op (Some v) xs h = folded_throws op (Some v ∷ xs) (Contains-append_right (Some v ∷ []) xs None h)

-- ---- places

-- the folds of which a place is made, where the chunks are folded first
abbrev shared_folds : {V : Type 0} → Scan → ℕ → (V → V → Option V) → List (Option V) → ℕ → ℕ → List (Option V)
shared_folds scan size op items q r = map (λ c. folded op (chunk size items c)) (range_with_len 0 q) ++ take (reach scan r) (chunk size items q)

seq_values : {V : Type 0} (op : V → V → Option V) (init : Option V) (vs : List V) → 1 ≤ length (cons_option init vs)
    → NoncommutativeSum op (cons_option init vs) (folded op (cons_option (option_map Some init) (map Some vs)))
seq_values op init vs l =
    sum_as op _ _ _ _ (begun_sum op init (map Leaf vs) vs (leaves-values vs) l) refl
    (ap (λ xs. folded op (cons_option (option_map Some init) xs)) (outcomes-values op vs))

-- a chunk before a place's own has values alone, where the place's items have
value_chunk : {V : Type 0} (size : ℕ) (items : List (Option V)) (vs : List V) (c q n : ℕ) → q * size ≤ n → take n items ≡ map Some vs → c < q
    → chunk size items c ≡ map Some (chunk size vs c)
value_chunk size items vs c q n fits e l =
    let more : (c + 1) * size ≤ q * size = mul-le-mul_right size (let b : c + 1 ≤ q = omega (arith, l) in b) in
    sym (chunk_taken size items c n (omega (arith, more, fits))) ∙ ap (λ xs. chunk size xs c) e ∙ chunk-map Some size vs c

chunk_some : {A : Type 0} (size : ℕ) (items : List A) (c q : ℕ) → 0 < size → q * size ≤ length items → c < q → 1 ≤ length (chunk size items c)
chunk_some size items c q some fits l =
    let more : (c + 1) * size ≤ q * size = mul-le-mul_right size (let b : c + 1 ≤ q = omega (arith, l) in b) in
    let next : (c + 1) * size ≡ c * size + size = omega arith in
    let e = length-take size (drop (c * size) items) in
    let e' = length-drop (c * size) items in
    omega (arith, more, next, e, e', some, fits)

shared_values : {V : Type 0} (op : V → V → Option V) (scan : Scan) (size : ℕ) (init : Option V) (items : List (Option V)) (vs : List V) (q r : ℕ)
    → r < size → take (reach scan (q * size + r)) items ≡ map Some vs → length vs ≡ reach scan (q * size + r) → 1 ≤ length (cons_option init vs)
    → NoncommutativeSum op (cons_option init vs) (folded op (cons_option (option_map Some init) (shared_folds scan size op items q r)))
shared_values op scan size init items vs q r l e count some =
    let bounds = reach_bounds scan (q * size + r) in
    let fits : q * size ≤ reach scan (q * size + r) = (let b = bounds.0 in omega (arith, b)) in
    let fits' : q * size ≤ length vs = omega (arith, fits, count) in
    let t = part_trees op (chunk size vs) (range_with_len 0 q)
    (all-range (λ c. 1 ≤ length (chunk size vs c)) 0 q (λ c b. chunk_some size vs c q (omega (arith, l)) fits' (omega (arith, b)))) in
    let rest = drop (q * size) vs in
    let held : flat_map leaves (t.trees ++ map Leaf rest) ≡ vs =
    flat_map-append leaves t.trees (map Leaf rest)
    ∙ ap (λ xs. xs ++ flat_map leaves (map Leaf rest)) (t.hold ∙ chunks-joined size vs 0 q
    ∙ ap (λ k. take (q * size) (drop k vs)) (let z : 0 * size ≡ 0 = omega arith in z))
    ∙ ap (λ xs. take (q * size) vs ++ xs) (leaves-values rest)
    ∙ take-append-drop (q * size) vs in
    let before : map (outcome_of op) t.trees ≡ map (λ c. folded op (chunk size items c)) (range_with_len 0 q) =
    t.give ∙ map-range_same (λ c. folded op (map Some (chunk size vs c))) (λ c. folded op (chunk size items c)) 0 q
    (λ c b. ap (folded op) (sym (value_chunk size items vs c q (reach scan (q * size + r)) fits e (omega (arith, b))))) in
    let own : map (outcome_of op) (map Leaf rest) ≡ take (reach scan r) (chunk size items q) =
    outcomes-values op rest ∙ sym (drop-map Some (q * size) vs) ∙ ap (drop (q * size)) (sym e) ∙ sym (last_part scan size items q r l) in
    let gives : map (outcome_of op) (t.trees ++ map Leaf rest) ≡ shared_folds scan size op items q r =
    map-append (outcome_of op) t.trees (map Leaf rest)
    ∙ ap (λ xs. xs ++ map (outcome_of op) (map Leaf rest)) before
    ∙ ap (λ xs. map (λ c. folded op (chunk size items c)) (range_with_len 0 q) ++ xs) own in
    sum_as op _ _ _ _ (begun_sum op init (t.trees ++ map Leaf rest) vs held some) refl
    (ap (λ xs. folded op (cons_option (option_map Some init) xs)) gives)

shared_throws : {V : Type 0} (op : V → V → Option V) (scan : Scan) (size : ℕ) (init : Option V) (items : List (Option V)) (q r : ℕ)
    → r < size → Contains (take (reach scan (q * size + r)) items) None
    → folded op (cons_option (option_map Some init) (shared_folds scan size op items q r)) ≡ None
shared_throws op scan size init items q r l h =
    let first = map (λ c. folded op (chunk size items c)) (range_with_len 0 q) in
    let own = take (reach scan r) (chunk size items q) in
    begun_throws op init (shared_folds scan size op items q r)
    (⊎_elim (λ here. Contains-append_left first own None (part_throws op (chunk size items) (range_with_len 0 q) here))
    (λ later. Contains-append_right first own None later)
    (Contains-append_cases (flat_map (chunk size items) (range_with_len 0 q)) own None
    (subst (λ xs. Contains xs None) (sym (place_items scan size items q r l)) h)))

value_place : {V : Type 0} (op : V → V → Option V) (policy : Policy) (scan : Scan) (size : ℕ) (init : Option V) (items : List (Option V)) (vs : List V) (p : ℕ)
    → 0 < size → take (reach scan p) items ≡ map Some vs → length vs ≡ reach scan p → 1 ≤ length (cons_option init vs)
    → NoncommutativeSum op (cons_option init vs) (place policy scan size op init items p)
value_place op Seq scan size init items vs p some e count begun =
    subst (λ xs. NoncommutativeSum op (cons_option init vs) (folded op (cons_option (option_map Some init) xs))) (sym e) (seq_values op init vs begun)
value_place op policy scan size init items vs p some e count begun =
    let whole : p / size * size + p % size ≡ p = div-add-mod' p size in
    shared_values op scan size init items vs (p / size) (p % size) (mod-lt p some)
    (ap (λ k. take (reach scan k) items) whole ∙ e) (count ∙ ap (reach scan) (sym whole)) begun

place_throws : {V : Type 0} (op : V → V → Option V) (policy : Policy) (scan : Scan) (size : ℕ) (init : Option V) (items : List (Option V)) (p : ℕ)
    → 0 < size → Contains (take (reach scan p) items) None → place policy scan size op init items p ≡ None
place_throws op Seq scan size init items p some h = begun_throws op init (take (reach scan p) items) h
place_throws op policy scan size init items p some h =
    let whole : p / size * size + p % size ≡ p = div-add-mod' p size in
    shared_throws op scan size init items (p / size) (p % size) (mod-lt p some)
    (subst (λ k. Contains (take (reach scan k) items) None) (sym whole) h)

either_place : {V : Type 0} (op : V → V → Option V) (policy : Policy) (scan : Scan) (size : ℕ) (init : Option V) (items : List (Option V)) (p : ℕ)
    → 0 < size → HasStart scan init → p < length items → Items (take (reach scan p) items)
    → MatchOption (all_given (take (reach scan p) items)) (place policy scan size op init items p ≡ None)
    (λ values. NoncommutativeSum op (cons_option init values) (place policy scan size op init items p))
either_place op policy scan size init items p some begun l (Values vs e given) =
    let bounds = reach_bounds scan p in
    let taken = length-take (reach scan p) items in
    let same : length (take (reach scan p) items) ≡ length vs = ap length e ∙ length-map vs Some in
    let count : length vs ≡ reach scan p = (let b = bounds.1 in omega (arith, b, taken, same, l)) in
    subst (λ o. MatchOption o (place policy scan size op init items p ≡ None)
    (λ values. NoncommutativeSum op (cons_option init values) (place policy scan size op init items p)))
    (sym given) (value_place op policy scan size init items vs p some e count (start_some scan init p vs begun count))
either_place op policy scan size init items p some begun l (Throws h given) =
    subst (λ o. MatchOption o (place policy scan size op init items p ≡ None)
    (λ values. NoncommutativeSum op (cons_option init values) (place policy scan size op init items p)))
    (sym given) (place_throws op policy scan size init items p some h)

belongs : {A : Type 0} (scan : Scan) (items : List A) (p : ℕ) → belonging scan items p ≡ take (reach scan p) items
belongs Inclusive items p = refl
belongs Exclusive items p = refl

-- each place is a sum of init and its items, in their order, and throws where one of them does
pub place_is_sum : {V : Type 0} (op : V → V → Option V) (policy : Policy) (scan : Scan) (size : ℕ) (init : Option V) (items : List (Option V)) (p : ℕ)
    → 0 < size → HasStart scan init → p < length items → IsPlaceSum scan op init items p (place policy scan size op init items p)
place_is_sum op policy scan size init items p some begun l =
    subst (λ own. MatchOption (all_given own) (place policy scan size op init items p ≡ None)
    (λ values. NoncommutativeSum op (cons_option init values) (place policy scan size op init items p)))
    (sym (belongs scan items p)) (either_place op policy scan size init items p some begun l (items_of (take (reach scan p) items)))
