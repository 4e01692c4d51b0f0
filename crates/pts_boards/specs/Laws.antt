-- Each sort of board meets what the shared rule asks of it.
use Rattle.std.specs.Prelude.{◌≡◌, ◌⊎◌, ℕ, ◌+◌, ◌≤◌, Bool, true, false, ◌||◌, List, [], ◌∷◌, ◌++◌, refl}
use Rattle.std.proofs.Common.{◌<◌, min, subst, inl, inr, ⊎_elim, arith}
use Rattle.std.proofs.lemmas.Bool.{cases_lt}
use Rattle.pts_boards.specs.Numbers.{times}
use Rattle.pts_boards.specs.Rule.{IsLawful}
use Rattle.pts_boards.specs.Claims.{claim_sort}
use Rattle.pts_boards.specs.Alarm.{alarm_sort}
use Rattle.pts_boards.specs.Least.{least_sort}
use Rattle.pts_boards.specs.Numbers.{none_lower}

-- a number stands in two lists as often as in both together
pub times-append : (x : ℕ) (xs ys : List ℕ) → times x (xs ++ ys) ≡ times x xs + times x ys
times-append x [] ys = omega arith
times-append x (y ∷ xs) ys = let r = times-append x xs ys in omega arith

-- where one of two tests is true, it is the first or the second
either_true : (a b : Bool) → (a || b) ≡ true → (a ≡ true) ⊎ (b ≡ true)
either_true true b e = inl refl
either_true false b e = inr e

-- numbers that are drawn once
pub claims_lawful : IsLawful claim_sort
claims_lawful = record {
  count_nothing = λ x. refl;
  count_passed = λ x k. refl;
  count_merged = λ x a b. times-append x a.numbers b.numbers;
  mark_nothing = refl;
  mark_passed = λ k. refl;
  mark_merged = λ a b. refl;
  agrees_more = λ terms word counted m n a le. (a.0, (let b = a.1 in omega arith));
  fits_nothing = λ terms word counted m a past. (cc);
  fits_passed = λ terms word counted k f. f;
  fits_merged = λ terms word counted a b f g past. ⊎_elim f g (either_true a.past b.past past);
}

-- an alarm
pub alarm_lawful : IsLawful alarm_sort
alarm_lawful = record {
  count_nothing = λ x. refl;
  count_passed = λ x k. refl;
  count_merged = λ x a b. refl;
  mark_nothing = refl;
  mark_passed = λ k. refl;
  mark_merged = λ a b. refl;
  agrees_more = λ terms word counted m n a le. (a.0, (let b = a.1 in omega arith));
  fits_nothing = λ terms word counted m a seen. (cc);
  fits_passed = λ terms word counted k f. f;
  fits_merged = λ terms word counted a b f g seen. ⊎_elim f g (either_true a.seen b.seen seen);
}

-- the lesser of two numbers is one of them
lesser : (P : ℕ → Type 0) (a b : ℕ) → P a → P b → P (min a b)
lesser P a b p q = ⊎_elim (λ (l : a < b). subst P (let e : a ≡ min a b = omega arith in e) p) (λ (l : b ≤ a). subst P (let e : b ≡ min a b = omega arith in e) q) (cases_lt a b)

-- a least number
pub least_lawful : IsLawful least_sort
least_lawful = record {
  count_nothing = λ x. refl;
  count_passed = λ x k. refl;
  count_merged = λ x a b. times-append x a.numbers b.numbers;
  mark_nothing = refl;
  mark_passed = λ k. refl;
  mark_merged = λ a b. refl;
  agrees_more = λ terms word counted m n a le. a;
  fits_nothing = λ terms word counted m a. (a.2, inl refl);
  fits_passed = λ terms word counted k f. f;
  fits_merged = λ terms word counted a b f g.
      (let p = f.0 in let q = g.0 in omega arith, lesser (λ n. (n ≡ none_lower) ⊎ (1 ≤ counted n)) a.least b.least f.1 g.1);
}
