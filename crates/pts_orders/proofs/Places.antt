-- The places of evaluations tell whether a list is a linear extension.
use Rattle.std.proofs.Common.{◌≡◌, ◌↔◌, suc, ◌≤◌, ◌<◌, Bool, true, false, List, [], ◌∷◌, refl, ap, sym, ◌∙◌, subst, arith}
use Rattle.pts_orders.specs.Evaluations.{Evaluation, is_same, one_if, times, Pairs}
use Rattle.pts_orders.specs.Extensions.{IsLinearExtension, IsInOrder, IsIrreflexive, place}
use Rattle.pts_orders.proofs.Lists.{same_is, itself, each_from, each_at}
use Rattle.pts_orders.proofs.Counting.{is_counted}

module _ (before : Evaluation → Evaluation → Bool) (irreflexive : IsIrreflexive before) where
  -- in pairs, so in places
  places : (l : List Evaluation) → Pairs (λ x y. before y x ≡ false) l → (x y : Evaluation) → 1 ≤ times x l → 1 ≤ times y l
      → before x y ≡ true → place x l < place y l
  places [] order x y t u b = absurd (omega arith)
  places (z ∷ zs) order x y t u b = by (is_same x z) refl (is_same y z) refl (places zs order.1 x y)
    where
      by : (e : Bool) → is_same x z ≡ e → (f : Bool) → is_same y z ≡ f
          → (1 ≤ times x zs → 1 ≤ times y zs → before x y ≡ true → place x zs < place y zs) → place x (z ∷ zs) < place y (z ∷ zs)
      by true p true q rest =
          let same : x ≡ y = same_is x z p ∙ sym (same_is y z q) in
          let no : before x x ≡ true = subst (λ w. before x w ≡ true) (sym same) b in
          let never = irreflexive x in
          absurd (let clash : true ≡ false = sym no ∙ never in cc)
      by true p false q rest = rw (p, q) (omega arith)
      by false p true q rest =
          let none : one_if (is_same x z) ≡ 0 = ap one_if p in
          let free : before x z ≡ false = each_at (λ w. before w z ≡ false) zs order.0 x (omega arith) in
          let no : before x z ≡ true = subst (λ w. before x w ≡ true) (same_is y z q) b in
          absurd (let clash : true ≡ false = sym no ∙ free in cc)
      by false p false q rest =
          let one : one_if (is_same x z) ≡ 0 = ap one_if p in
          let other : one_if (is_same y z) ≡ 0 = ap one_if q in
          let r = rest (omega arith) (omega arith) b in
          rw (p, q) (omega arith)

  -- in places, so in pairs, where nothing stands twice
  in_pairs : (l : List Evaluation) → ((x : Evaluation) → times x l ≤ 1)
      → ((x y : Evaluation) → 1 ≤ times x l → 1 ≤ times y l → before x y ≡ true → place x l < place y l)
      → Pairs (λ x y. before y x ≡ false) l
  in_pairs [] once h = tt
  in_pairs (z ∷ zs) once h = (
    each_from (λ y. before y z ≡ false) zs first,
    in_pairs zs (λ x. let o = once x in omega arith) rest,
  )
    where
      other : (y : Evaluation) → 1 ≤ times y zs → is_same y z ≡ false
      other y t = by (is_same y z) refl
        where
          by : (b : Bool) → is_same y z ≡ b → is_same y z ≡ false
          by true e = let one : one_if (is_same y z) ≡ 1 = ap one_if e in let o = once y in absurd (omega arith)
          by false e = e

      first : (y : Evaluation) → 1 ≤ times y zs → before y z ≡ false
      first y t = by (before y z) refl
        where
          by : (b : Bool) → before y z ≡ b → before y z ≡ false
          by true e =
              let here : one_if (is_same z z) ≡ 1 = ap one_if (itself z) in
              let up = h y z (omega arith) (omega arith) e in
              let least : place z (z ∷ zs) ≡ 0 = rw (itself z) refl in
              absurd (omega arith)
          by false e = e

      rest : (x y : Evaluation) → 1 ≤ times x zs → 1 ≤ times y zs → before x y ≡ true → place x zs < place y zs
      rest x y t u b =
          let up = h x y (omega arith) (omega arith) b in
          let one : place x (z ∷ zs) ≡ suc (place x zs) = rw (other x t) refl in
          let two : place y (z ∷ zs) ≡ suc (place y zs) = rw (other y u) refl in
          omega arith

-- the two ways to say that a list is in order
pub places_tell : (is_evaluation : Evaluation → Bool) (before : Evaluation → Evaluation → Bool) → IsIrreflexive before
    → (l : List Evaluation) → IsLinearExtension is_evaluation before l ↔ IsInOrder is_evaluation before l
places_tell is_evaluation before irreflexive l = (
  λ extends. record {
    each_once = extends.each_once;
    places = λ x y e f b.
        places before irreflexive l extends.in_order x y (there x e (extends.each_once x)) (there y f (extends.each_once y)) b;
  },
  λ ordered. record {
    each_once = ordered.each_once;
    in_order = in_pairs before irreflexive l (λ x. most x (is_evaluation x) (ordered.each_once x)) (λ x y t u b.
        ordered.places x y (is_counted x l (is_evaluation x) (ordered.each_once x) t) (is_counted y l (is_evaluation y) (ordered.each_once y) u) b);
  },
)
  where
    there : (x : Evaluation) → is_evaluation x ≡ true → times x l ≡ one_if (is_evaluation x) → 1 ≤ times x l
    there x e once = let one : one_if (is_evaluation x) ≡ 1 = ap one_if e in omega arith

    most : (x : Evaluation) (b : Bool) → times x l ≡ one_if b → times x l ≤ 1
    most x true e = omega arith
    most x false e = omega arith
