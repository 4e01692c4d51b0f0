-- An operation that may be grouped and turned freely has totals: the left folds.
use Rattle.std.proofs.Common.{◌≡◌, ℕ, zero, suc, ◌<◌, ◌≤◌, Option, Some, None, List, [], ◌∷◌, ◌++◌, length, map, get_or, set, refl, sym, ap, ◌∙◌, arith}
use Rattle.std.specs.List.{fold, All, swap}
use Rattle.std.specs.Option.{IfSome}
use Rattle.std.specs.List.Sorted.{IsPermutation}
use Rattle.std.proofs.lemmas.List.{map-append}
use Rattle.std.proofs.lemmas.List.Sums.{fold-append}
use Rattle.std.proofs.lemmas.List.Elements.{All-nil, All-cons, All-head, All-tail}
use Rattle.std.proofs.lemmas.List.Sorted.{All-permutation, IsPermutation-keeps, IsPermutation-swap}
use Rattle.pts_groupings.specs.Brackets.{combined}
use Rattle.pts_groupings.specs.Sums.{folded}
use Rattle.pts_groupings.proofs.Totals.{HasTotals}

-- an operation on the values of a kind that is associative and commutative there, throws included
pub record IsFree {V : Type 0} (In : V → Type 0) (op : V → V → Option V) : Type 0 where
  pub stays : (x y : V) → In x → In y → IfSome (op x y) In
  pub grouped : (x y z : V) → In x → In y → In z → combined op (op x y) (Some z) ≡ combined op (Some x) (op y z)
  pub turned : (x y : V) → In x → In y → op x y ≡ op y x

-- the left fold that goes on from an outcome
abbrev gone_on : {V : Type 0} → (V → V → Option V) → Option V → List V → Option V
gone_on op s xs = fold (combined op) s (map Some xs)

-- the left fold of the values
abbrev pub left_fold : {V : Type 0} → (V → V → Option V) → List V → Option V
left_fold op xs = folded op (map Some xs)

all_front : {V : Type 0} (In : V → Type 0) (xs ys : List V) → All In (xs ++ ys) → All In xs
all_front In [] ys all = All-nil In
all_front In (x ∷ xs) ys all = All-cons In x xs (All-head In x (xs ++ ys) all) (all_front In xs ys (All-tail In x (xs ++ ys) all))

all_back : {V : Type 0} (In : V → Type 0) (xs ys : List V) → All In (xs ++ ys) → All In ys
all_back In [] ys all = all
all_back In (x ∷ xs) ys all = all_back In xs ys (All-tail In x (xs ++ ys) all)

module _ {V : Type 0} (In : V → Type 0) (op : V → V → Option V) (h : IsFree In op) where
  kept : (s : Option V) (y : V) → IfSome s In → In y → IfSome (combined op s (Some y)) In
  kept None y s_in y_in = tt
  kept (Some a) y s_in y_in = h.stays a y s_in y_in

  assoc : (a b : Option V) (y : V) → IfSome a In → IfSome b In → In y → combined op (combined op a b) (Some y) ≡ combined op a (combined op b (Some y))
  assoc None b y a_in b_in y_in = refl
  assoc (Some a) None y a_in b_in y_in = refl
  assoc (Some a) (Some b) y a_in b_in y_in = h.grouped a b y a_in b_in y_in

  exchange : (s : Option V) (y z : V) → IfSome s In → In y → In z
      → combined op (combined op s (Some y)) (Some z) ≡ combined op (combined op s (Some z)) (Some y)
  exchange None y z s_in y_in z_in = refl
  exchange (Some a) y z s_in y_in z_in =
      h.grouped a y z s_in y_in z_in ∙ ap (combined op (Some a)) (h.turned y z y_in z_in) ∙ sym (h.grouped a z y s_in z_in y_in)

  -- ---- two folds together

  kept_fold : (xs : List V) (s : Option V) → IfSome s In → All In xs → IfSome (gone_on op s xs) In
  kept_fold [] s s_in all = s_in
  kept_fold (x ∷ xs) s s_in all = kept_fold xs (combined op s (Some x)) (kept s x s_in (All-head In x xs all)) (All-tail In x xs all)

  joined : (ys : List V) (a b : Option V) → IfSome a In → IfSome b In → All In ys → combined op a (gone_on op b ys) ≡ gone_on op (combined op a b) ys
  joined [] a b a_in b_in all = refl
  joined (y ∷ ys) a b a_in b_in all =
      let y_in = All-head In y ys all in
      joined ys a (combined op b (Some y)) a_in (kept b y b_in y_in) (All-tail In y ys all)
      ∙ ap (λ s. gone_on op s ys) (sym (assoc a b y a_in b_in y_in))

  adds : (xs ys : List V) → 1 ≤ length xs → 1 ≤ length ys → All In (xs ++ ys) → combined op (left_fold op xs) (left_fold op ys) ≡ left_fold op (xs ++ ys)
  adds [] ys l l' all = absurd (omega (arith, l))
  adds (x ∷ xs) [] l l' all = absurd (omega (arith, l'))
  adds (x ∷ xs) (y ∷ ys) l l' all =
      let first = all_front In (x ∷ xs) (y ∷ ys) all in
      let second = all_back In (x ∷ xs) (y ∷ ys) all in
      let before = gone_on op (Some x) xs in
      let before_in : IfSome before In = kept_fold xs (Some x) (All-head In x xs first) (All-tail In x xs first) in
      joined ys before (Some y) before_in (All-head In y ys second) (All-tail In y ys second)
      ∙ sym (fold-append (combined op) (Some x) (map Some xs) (map Some (y ∷ ys)))
      ∙ ap (fold (combined op) (Some x)) (sym (map-append Some xs (y ∷ ys)))

  -- ---- other orders

  at_in : (xs : List V) (i : ℕ) (d : V) → i < length xs → All In xs → In (get_or xs i d)
  at_in [] i d l all = absurd (omega (arith, l))
  at_in (x ∷ xs) zero d l all = All-head In x xs all
  at_in (x ∷ xs) (suc i) d l all = at_in xs i d (omega (arith, l)) (All-tail In x xs all)

  -- a value before a list changes places with one in it, behind a fold that has begun
  out : (xs : List V) (i : ℕ) (d y : V) (s : Option V) → i < length xs → IfSome s In → In y → All In xs
      → gone_on op (combined op s (Some y)) xs ≡ gone_on op (combined op s (Some (get_or xs i d))) (set xs i y)
  out [] i d y s l s_in y_in all = absurd (omega (arith, l))
  out (x ∷ xs) zero d y s l s_in y_in all = ap (λ o. gone_on op o xs) (exchange s y x s_in y_in (All-head In x xs all))
  out (x ∷ xs) (suc i) d y s l s_in y_in all =
      let x_in = All-head In x xs all in
      let rest = All-tail In x xs all in
      let l' : i < length xs = omega (arith, l) in
      ap (λ o. gone_on op o xs) (exchange s y x s_in y_in x_in)
      ∙ out xs i d y (combined op s (Some x)) l' (kept s x s_in x_in) y_in rest
      ∙ ap (λ o. gone_on op o (set xs i y)) (exchange s x (get_or xs i d) s_in x_in (at_in xs i d l' rest))

  -- the same at the head of the whole list
  first_out : (xs : List V) (i : ℕ) (d y : V) → i < length xs → In y → All In xs → gone_on op (Some y) xs ≡ gone_on op (Some (get_or xs i d)) (set xs i y)
  first_out [] i d y l y_in all = absurd (omega (arith, l))
  first_out (x ∷ xs) zero d y l y_in all = ap (λ o. gone_on op o xs) (h.turned y x y_in (All-head In x xs all))
  first_out (x ∷ xs) (suc i) d y l y_in all =
      let x_in = All-head In x xs all in
      let rest = All-tail In x xs all in
      let l' : i < length xs = omega (arith, l) in
      ap (λ o. gone_on op o xs) (h.turned y x y_in x_in)
      ∙ out xs i d y (Some x) l' x_in y_in rest
      ∙ ap (λ o. gone_on op o (set xs i y)) (h.turned x (get_or xs i d) x_in (at_in xs i d l' rest))

  -- two places of a list change their values, behind a fold that has begun
  twice : (xs : List V) (i j : ℕ) (d : V) (s : Option V) → i < length xs → j < length xs → IfSome s In → All In xs
      → gone_on op s (set (set xs i (get_or xs j d)) j (get_or xs i d)) ≡ gone_on op s xs
  twice [] i j d s l l' s_in all = absurd (omega (arith, l))
  twice (x ∷ xs) zero zero d s l l' s_in all = refl
  twice (x ∷ xs) zero (suc j) d s l l' s_in all = sym (out xs j d x s (omega (arith, l')) s_in (All-head In x xs all) (All-tail In x xs all))
  twice (x ∷ xs) (suc i) zero d s l l' s_in all = sym (out xs i d x s (omega (arith, l)) s_in (All-head In x xs all) (All-tail In x xs all))
  twice (x ∷ xs) (suc i) (suc j) d s l l' s_in all =
      twice xs i j d (combined op s (Some x)) (omega (arith, l)) (omega (arith, l')) (kept s x s_in (All-head In x xs all)) (All-tail In x xs all)

  swapped : (xs : List V) (i j : ℕ) → i < length xs → j < length xs → All In xs → left_fold op (swap xs i j) ≡ left_fold op xs
  swapped [] i j l l' all = absurd (omega (arith, l))
  swapped (x ∷ xs) zero zero l l' all = refl
  swapped (x ∷ xs) zero (suc j) l l' all = sym (first_out xs j x x (omega (arith, l')) (All-head In x xs all) (All-tail In x xs all))
  swapped (x ∷ xs) (suc i) zero l l' all = sym (first_out xs i x x (omega (arith, l)) (All-head In x xs all) (All-tail In x xs all))
  swapped (x ∷ xs) (suc i) (suc j) l l' all =
      twice xs i j x (Some x) (omega (arith, l)) (omega (arith, l')) (All-head In x xs all) (All-tail In x xs all)

  reorders : (xs ys : List V) → IsPermutation xs ys → All In xs → left_fold op ys ≡ left_fold op xs
  reorders xs ys p all =
      let kept_all = IsPermutation-keeps xs (λ l. All In l × (left_fold op l ≡ left_fold op xs)) (all, refl)
      (λ l i j below below' so.
      (All-permutation In l (swap l i j) (IsPermutation-swap l (swap l i j) i j below below' refl) so.0, swapped l i j below below' so.0 ∙ so.1))
      ys p in
      kept_all.1

  pub free_totals : HasTotals op (All In) (left_fold op)
  free_totals = record {
    one = λ x all. refl;
    front = all_front In;
    back = all_back In;
    adds = adds;
    may_reorder = All-permutation In;
    reorders = reorders;
  }
