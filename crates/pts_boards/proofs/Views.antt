-- Sums over views, and what holds of each view, when one changes or one is added.
use Rattle.std.proofs.Common.{◌≡◌, ◌≢◌, ℕ, zero, suc, ◌+◌, ◌≤◌, List, [], ◌∷◌, ◌++◌, sym, ap, subst, ⊎_elim, le_refl, arith}
use Rattle.std.specs.Prelude.{slice_set}
use mathlib.Core.Option.{some, some-injective, some-ne-none}
use lib.ListN.{get_elem?}
use Rattle.atomic_table.proofs.Lists.{at_set, at_snoc}
use Rattle.pts_boards.specs.Rule.{total}

module _ {V : Type 0} where
  -- a sum once the view at i is w
  pub total_set : (f : V → ℕ) (vs : List V) (i : ℕ) (v w : V) → get_elem? vs i ≡ some v → total f (slice_set vs i w) + f v ≡ total f vs + f w
  total_set f [] i v w e = absurd (some-ne-none v (sym e))
  total_set f (x ∷ xs) zero v w e = let q : f x ≡ f v = ap f (some-injective x v e) in omega arith
  total_set f (x ∷ xs) (suc i) v w e = let r = total_set f xs i v w e in omega arith

  -- a sum once w is added
  pub total_snoc : (f : V → ℕ) (vs : List V) (w : V) → total f (vs ++ w ∷ []) ≡ total f vs + f w
  total_snoc f [] w = omega arith
  total_snoc f (x ∷ xs) w = let r = total_snoc f xs w in omega arith

  -- what one view adds is at most the sum
  pub one_of_total : (f : V → ℕ) (vs : List V) (i : ℕ) (v : V) → get_elem? vs i ≡ some v → f v ≤ total f vs
  one_of_total f [] i v e = absurd (some-ne-none v (sym e))
  one_of_total f (x ∷ xs) zero v e = let q : f x ≡ f v = ap f (some-injective x v e) in omega arith
  one_of_total f (x ∷ xs) (suc i) v e = let r = one_of_total f xs i v e in omega arith

  total_le : (f g : V → ℕ) → ((u : V) → f u ≤ g u) → (vs : List V) → total f vs ≤ total g vs
  total_le f g le [] = le_refl 0
  total_le f g le (x ∷ xs) = let a = le x in let r = total_le f g le xs in omega arith

  -- of two sums, one below the other at each view, the lesser leaves room for what it lacks at one view
  pub total_room : (f g : V → ℕ) → ((u : V) → f u ≤ g u) → (vs : List V) (i : ℕ) (v : V) → get_elem? vs i ≡ some v → total f vs + g v ≤ total g vs + f v
  total_room f g le [] i v e = absurd (some-ne-none v (sym e))
  total_room f g le (x ∷ xs) zero v e = let a : f x ≡ f v = ap f (some-injective x v e) in let b : g x ≡ g v = ap g (some-injective x v e) in let r = total_le f g le xs in omega arith
  total_room f g le (x ∷ xs) (suc i) v e = let a = le x in let r = total_room f g le xs i v e in omega arith

  -- it holds of each view
  abbrev pub Each : (V → Type 0) → List V → Type 0
  Each P vs = (i : ℕ) (v : V) → get_elem? vs i ≡ some v → P v

  total_none : (w f : V → ℕ) (vs : List V) → total w vs ≡ 0 → Each (λ u. w u ≡ 0 → f u ≡ 0) vs → total f vs ≡ 0
  total_none w f [] none each = omega arith
  total_none w f (x ∷ xs) none each = let a : f x ≡ 0 = each 0 x (λ _. some x) (omega arith) in let r = total_none w f xs (omega arith) (λ i u e. each (suc i) u e) in omega arith

  -- a view with all the weight has all that the others lack
  pub total_whole : (w f : V → ℕ) (vs : List V) (i : ℕ) (v : V) → get_elem? vs i ≡ some v → total w vs ≡ w v → Each (λ u. w u ≡ 0 → f u ≡ 0) vs → total f vs ≡ f v
  total_whole w f [] i v e all each = absurd (some-ne-none v (sym e))
  total_whole w f (x ∷ xs) zero v e all each =
      let q : f x ≡ f v = ap f (some-injective x v e) in
      let p : w x ≡ w v = ap w (some-injective x v e) in
      let r = total_none w f xs (omega arith) (λ j u e'. each (suc j) u e') in omega arith
  total_whole w f (x ∷ xs) (suc i) v e all each =
      let most = one_of_total w xs i v e in
      let a : f x ≡ 0 = each 0 x (λ _. some x) (omega arith) in
      let r = total_whole w f xs i v e (omega arith) (λ j u e'. each (suc j) u e') in omega arith

  -- it holds of each view once the view at i is w
  pub each_set : (P : V → Type 0) (vs : List V) (i : ℕ) (w : V) → Each P vs → P w → Each P (slice_set vs i w)
  each_set P vs i w each mine j u e = ⊎_elim (λ (t : (j ≡ i) × (w ≡ u)). subst P t.1 mine) (λ (t : (j ≢ i) × (get_elem? vs j ≡ some u)). each j u t.1) (at_set vs i j w u e)

  -- it holds of each view once w is added
  pub each_snoc : (P : V → Type 0) (vs : List V) (w : V) → Each P vs → P w → Each P (vs ++ w ∷ [])
  each_snoc P vs w each mine j u e = ⊎_elim (λ (t : get_elem? vs j ≡ some u). each j u t) (λ (t : w ≡ u). subst P t mine) (at_snoc vs w u j e)
