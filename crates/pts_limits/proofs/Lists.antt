-- One element more of a list that is counted.
use Rattle.std.proofs.Common.{◌≡◌, ℕ, ◌+◌, ◌<◌, List, [], ◌∷◌, ◌++◌, length, get_or, take, map, refl, ap, sym, ◌∙◌, arith}
use Rattle.std.specs.Prelude.{max, sum}
use Rattle.std.proofs.lemmas.List.{map_more, length-map}
use Rattle.std.proofs.lemmas.List.Sums.{sum_by_more, sum-map}
use Rattle.pts_rules.specs.Counts.{Size, greatest, nodes_of}
use Rattle.pts_limits.specs.Amounts.{capped}

max_moves : (a b c : ℕ) → max a (max b c) ≡ max (max a b) c
max_moves a b c = omega arith

max_capped : (a b : ℕ) → max (capped a) (capped b) ≡ capped (max a b)
max_capped a b = omega arith

greatest_push : (xs : List ℕ) (x : ℕ) → greatest (xs ++ x ∷ []) ≡ max (greatest xs) x
greatest_push [] x = grind arith
greatest_push (y ∷ ys) x = ap (λ n. max y n) (greatest_push ys x) ∙ max_moves y (greatest ys) x

pub greatest_more : {A : Type 0} (f : A → ℕ) (xs : List A) (i : ℕ) (d : A) → i < length xs → greatest (map f (take (i + 1) xs)) ≡ max (greatest (map f (take i xs))) (f (get_or xs i d))
greatest_more f xs i d h = ap greatest (map_more f xs i d h) ∙ greatest_push (map f (take i xs)) (f (get_or xs i d))

-- the greatest so far, and one more
pub deeper : {A : Type 0} (f : A → ℕ) (xs : List A) (i : ℕ) (x : A) (so_far y next : ℕ) → i < length xs → x ≡ get_or xs i x → so_far ≡ greatest (map f (take i xs)) → y ≡ f x → next ≡ max so_far y → next ≡ greatest (map f (take (i + 1) xs))
deeper f xs i x so_far y next h is e1 e2 e3 =
    e3 ∙ (λ j. max (e1 j) (e2 j)) ∙ ap (λ z. max (greatest (map f (take i xs))) (f z)) is ∙ sym (greatest_more f xs i x h)

-- the same where both are capped
pub deeper_capped : {A : Type 0} (f : A → ℕ) (xs : List A) (i : ℕ) (x : A) (so_far y next : ℕ) → i < length xs → x ≡ get_or xs i x → so_far ≡ capped (greatest (map f (take i xs))) → y ≡ capped (f x) → next ≡ max so_far y → next ≡ capped (greatest (map f (take (i + 1) xs)))
deeper_capped f xs i x so_far y next h is e1 e2 e3 =
    e3 ∙ (λ j. max (e1 j) (e2 j)) ∙ max_capped (greatest (map f (take i xs))) (f x) ∙ ap (λ z. capped (max (greatest (map f (take i xs))) (f z))) is
    ∙ ap capped (sym (greatest_more f xs i x h))

pub sum_more : {A : Type 0} (f : A → ℕ) (xs : List A) (i : ℕ) (d : A) → i < length xs → sum (map f (take (i + 1) xs)) ≡ sum (map f (take i xs)) + f (get_or xs i d)
sum_more f xs i d h = sum-map f (take (i + 1) xs) ∙ sum_by_more f xs i d h ∙ ap (λ n. n + f (get_or xs i d)) (sym (sum-map f (take i xs)))

map-map : {A B C : Type 0} (g : B → C) (f : A → B) (xs : List A) → map g (map f xs) ≡ map (λ x. g (f x)) xs
map-map g f [] = refl
map-map g f (x ∷ xs) = ap (λ ys. g (f x) ∷ ys) (map-map g f xs)

pub ruleset lengths = (length-map)

pub nodes_more : {A : Type 0} (f : A → Size) (xs : List A) (i : ℕ) (d : A) → i < length xs → nodes_of (map f (take (i + 1) xs)) ≡ nodes_of (map f (take i xs)) + (f (get_or xs i d)).nodes
nodes_more f xs i d h =
    ap sum (map-map (λ (x : Size). x.nodes) f (take (i + 1) xs)) ∙ sum_more (λ x. (f x).nodes) xs i d h
    ∙ ap (λ ys. sum ys + (f (get_or xs i d)).nodes) (sym (map-map (λ (x : Size). x.nodes) f (take i xs)))
