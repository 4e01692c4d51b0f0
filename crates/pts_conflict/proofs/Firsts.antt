-- Ranks, and the first of what several searches find.
use Rattle.std.proofs.Common.{◌≡◌, ℕ, ◌+◌, ◌<◌, ◌≤◌, ◌⊎◌, inl, inr, Bool, true, false, ◌&&◌, ◌||◌, Option, Some, None, List, [], ◌∷◌, ◌++◌, length, take, get_or, refl, sym, subst, arith}
use Rattle.std.specs.Prelude.{not, if◌then◌else◌}
use Rattle.std.proofs.lemmas.Bool.{cases_lt}
use Rattle.std.proofs.lemmas.Bool.Decides.{nat_tests}
use Rattle.std.proofs.lemmas.List.{take_all, take_more}
use Rattle.pts_conflict.specs.Conflicts.{is_at_most}
use Rattle.pts_conflict.specs.Search.{Below, FindsFirst, OneOf, lower}

-- ---- ranks

pub at_most-refl : (xs : List ℕ) → is_at_most xs xs ≡ true
at_most-refl [] = refl
at_most-refl (x ∷ xs) = let same = at_most-refl xs in grind (arith, nat_tests, same)

one_way : (xs ys : List ℕ) → (is_at_most xs ys || is_at_most ys xs) ≡ true
one_way [] ys = refl
one_way (x ∷ xs) [] = refl
one_way (x ∷ xs) (y ∷ ys) = let rest = one_way xs ys in grind (arith, nat_tests, rest)

through : (xs ys zs : List ℕ) → (not (is_at_most xs ys && is_at_most ys zs) || is_at_most xs zs) ≡ true
through [] ys zs = by_test (is_at_most ys zs)
  where
    by_test : (b : Bool) → (not b || true) ≡ true
    by_test true = refl
    by_test false = refl
through (x ∷ xs) [] zs = refl
through (x ∷ xs) (y ∷ ys) [] = grind arith
through (x ∷ xs) (y ∷ ys) (z ∷ zs) = let rest = through xs ys zs in grind (arith, nat_tests, rest)

pub at_most-trans : (xs ys zs : List ℕ) → is_at_most xs ys ≡ true → is_at_most ys zs ≡ true → is_at_most xs zs ≡ true
at_most-trans xs ys zs h k = let all = through xs ys zs in grind (arith, h, k, all)

pub at_most-other : (xs ys : List ℕ) → is_at_most xs ys ≡ false → is_at_most ys xs ≡ true
at_most-other xs ys h = let all = one_way xs ys in grind (arith, h, all)

-- ---- first ones

module _ {A : Type 0} (rank : A → List ℕ) where
  -- what holds of one of two sorts has its first one where the lower of theirs is
  pub joined : (P Q R : A → Type 0) (r s : Option A) → ((x : A) → R x → P x ⊎ Q x) → ((x : A) → P x → R x) → ((x : A) → Q x → R x)
      → FindsFirst P rank r → FindsFirst Q rank s → FindsFirst R rank (lower rank r s)
  joined P Q R None None split one other f g = λ x h. elim (split x h) [ inl p ↦ f x p | inr q ↦ g x q ]
  joined P Q R None (Some y) split one other f g = record {
    holds = other y g.holds;
    least = λ z h. elim (split z h) [ inl p ↦ absurd (f z p) | inr q ↦ g.least z q ];
  }
  joined P Q R (Some x) None split one other f g = record {
    holds = one x f.holds;
    least = λ z h. elim (split z h) [ inl p ↦ f.least z p | inr q ↦ absurd (g z q) ];
  }
  joined P Q R (Some x) (Some y) split one other f g = by_test (is_at_most (rank x) (rank y)) refl
    where
      by_test : (b : Bool) → is_at_most (rank x) (rank y) ≡ b → FindsFirst R rank (if b then Some x else Some y)
      by_test true e = record {
        holds = one x f.holds;
        least = λ z h. elim (split z h) [ inl p ↦ f.least z p | inr q ↦ at_most-trans (rank x) (rank y) (rank z) e (g.least z q) ];
      }
      by_test false e = record {
        holds = other y g.holds;
        least = λ z h. elim (split z h) [
          | inl p ↦ at_most-trans (rank y) (rank x) (rank z) (at_most-other (rank x) (rank y) e) (f.least z p)
          | inr q ↦ g.least z q
        ];
      }

  -- what is the same holds has the same first one
  pub renamed : (P Q : A → Type 0) (r : Option A) → ((x : A) → P x → Q x) → ((x : A) → Q x → P x) → FindsFirst P rank r → FindsFirst Q rank r
  renamed P Q None there back f = λ x h. f x (back x h)
  renamed P Q (Some x) there back f = record { holds = there x f.holds; least = λ z h. f.least z (back z h) }

-- ---- one of many

module _ {A B : Type 0} (P : B → A → Type 0) where
  pub in_front : (xs ys : List B) (x : A) → OneOf P xs x → OneOf P (xs ++ ys) x
  in_front [] ys x h = absurd h
  in_front (y ∷ xs) ys x (inl h) = inl h
  in_front (y ∷ xs) ys x (inr h) = inr (in_front xs ys x h)

  pub behind : (xs ys : List B) (x : A) → OneOf P ys x → OneOf P (xs ++ ys) x
  behind [] ys x h = h
  behind (y ∷ xs) ys x h = inr (behind xs ys x h)

  pub in_one : (xs ys : List B) (x : A) → OneOf P (xs ++ ys) x → OneOf P xs x ⊎ OneOf P ys x
  in_one [] ys x h = inr h
  in_one (y ∷ xs) ys x (inl h) = inl (inl h)
  in_one (y ∷ xs) ys x (inr h) = elim (in_one xs ys x h) [ inl k ↦ inl (inr k) | inr k ↦ inr k ]

  last : (xs : List B) (y : B) (x : A) → OneOf P (xs ++ y ∷ []) x → OneOf P xs x ⊎ P y x
  last xs y x h = elim (in_one xs (y ∷ []) x h) [ inl k ↦ inl k | inr k ↦ elim k [ inl here ↦ inr here | inr none ↦ absurd none ] ]

module _ {A B : Type 0} (rank : A → List ℕ) (P : B → A → Type 0) (xs : List B) where
  pub found_none : FindsFirst (OneOf P (take 0 xs)) rank None
  found_none = λ x h. absurd h

  pub found_more : (i : ℕ) (best found next : Option A) (y d : B) → FindsFirst (OneOf P (take i xs)) rank best → FindsFirst (P y) rank found
      → i < length xs → y ≡ get_or xs i d → next ≡ lower rank best found → FindsFirst (OneOf P (take (i + 1) xs)) rank next
  found_more i best found next y d f g within is e =
      subst (FindsFirst (OneOf P (take (i + 1) xs)) rank) (sym e)
      (subst (λ ys. FindsFirst (OneOf P ys) rank (lower rank best found)) (sym (take_more xs i d within))
      (subst (λ z. FindsFirst (OneOf P (take i xs ++ z ∷ [])) rank (lower rank best found)) is
      (joined rank (OneOf P (take i xs)) (P y) (OneOf P (take i xs ++ y ∷ [])) best found (last P (take i xs) y)
      (in_front P (take i xs) (y ∷ [])) (λ x h. behind P (take i xs) (y ∷ []) x (inl h)) f g)))

  pub found_all : (i : ℕ) (best : Option A) → FindsFirst (OneOf P (take i xs)) rank best → length xs ≤ i → FindsFirst (OneOf P xs) rank best
  found_all i best f all = subst (λ ys. FindsFirst (OneOf P ys) rank best) (take_all i xs all) f

pub ruleset turns = (found_none, found_more, found_all)

-- ---- numbers

below : (c n : ℕ) → c < n + 1 → (c < n) ⊎ (c ≡ n)
below c n h = elim (cases_lt c n) [ inl less ↦ inl less | inr more ↦ inr (omega (arith, h, more)) ]

module _ {A : Type 0} (rank : A → List ℕ) (P : ℕ → A → Type 0) where
  pub below_none : FindsFirst (Below P 0) rank None
  below_none = λ x h. absurd (let less = h.1 in omega (arith, less))

  pub below_more : (n : ℕ) (best found next : Option A) → FindsFirst (Below P n) rank best → FindsFirst (P n) rank found → next ≡ lower rank best found
      → FindsFirst (Below P (n + 1)) rank next
  below_more n best found next f g e =
      subst (FindsFirst (Below P (n + 1)) rank) (sym e)
      (joined rank (Below P n) (P n) (Below P (n + 1)) best found split
      (λ x h. (h.0, (let less = h.1 in omega (arith, less)), h.2)) (λ x h. (n, omega arith, h)) f g)
    where
      by_number : (x : A) (c : ℕ) → P c x → (c < n) ⊎ (c ≡ n) → Below P n x ⊎ P n x
      by_number x c h (inl less) = inl (c, less, h)
      by_number x c h (inr same) = inr (subst (λ k. P k x) same h)

      split : (x : A) → Below P (n + 1) x → Below P n x ⊎ P n x
      split x h = by_number x h.0 h.2 (below h.0 n h.1)
