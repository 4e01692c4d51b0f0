-- Loops that count the elements of a list that pass a test, in a number of 32 bits.
use Rattle.std.proofs.Common.{◌≡◌, ℕ, ◌+◌, ◌-◌, ◌^◌, ◌<◌, ◌≤◌, Bool, true, false, List, length, get_or, cond, arith, refl, sym, ap, ◌∙◌}
use Rattle.std.specs.Prelude.{min, take, filter}
use Rattle.std.proofs.Math.Nat.{add-zero}
use Rattle.std.proofs.lemmas.List.{take_all}
use Rattle.std.proofs.lemmas.List.Filters.{length-filter_more}

-- so many of the elements before this place pass
pub record Counted {A : Type 0} (test : A → Bool) (xs : List A) (at : ℕ) (now : ℕ) : Type 0 where
  pub counted : now ≡ min (length (filter test (take at xs))) (2 ^ 32 - 1)

pub counted_none : {A : Type 0} (test : A → Bool) (xs : List A) → Counted test xs 0 0
counted_none test xs = record { counted = refl }

one_more : (before now after : ℕ) → now ≡ min before (2 ^ 32 - 1) → after ≡ min (now + 1) (2 ^ 32 - 1) → after ≡ min (before + 1) (2 ^ 32 - 1)
one_more before now after e f = grind arith

pub counted_one : {A : Type 0} (test : A → Bool) (xs : List A) (at now after : ℕ) (x : A)
    → Counted test xs at now → at < length xs → x ≡ get_or xs at x → test x ≡ true → after ≡ min (now + 1) (2 ^ 32 - 1) → Counted test xs (at + 1) after
counted_one test xs at now after x w within is passes e =
    record {
      counted =
          one_more (length (filter test (take at xs))) now after w.counted e
          ∙ (λ i. min (length (filter test (take at xs)) + cond ((sym passes ∙ ap test is) i) 1 0) (2 ^ 32 - 1))
          ∙ ap (λ n. min n (2 ^ 32 - 1)) (sym (length-filter_more test xs at x within));
    }

pub counted_same : {A : Type 0} (test : A → Bool) (xs : List A) (at now : ℕ) (x : A)
    → Counted test xs at now → at < length xs → x ≡ get_or xs at x → test x ≡ false → Counted test xs (at + 1) now
counted_same test xs at now x w within is fails =
    record {
      counted =
          w.counted
          ∙ ap (λ n. min n (2 ^ 32 - 1)) (sym (add-zero (length (filter test (take at xs)))))
          ∙ (λ i. min (length (filter test (take at xs)) + cond ((sym fails ∙ ap test is) i) 1 0) (2 ^ 32 - 1))
          ∙ ap (λ n. min n (2 ^ 32 - 1)) (sym (length-filter_more test xs at x within));
    }

pub counted_all : {A : Type 0} (test : A → Bool) (xs : List A) (at now : ℕ) → Counted test xs at now → length xs ≤ at → now ≡ min (length (filter test xs)) (2 ^ 32 - 1)
counted_all test xs at now w all = w.counted ∙ ap (λ ys. min (length (filter test ys)) (2 ^ 32 - 1)) (take_all at xs all)

pub ruleset counts = (counted_none, counted_one, counted_same, counted_all)
