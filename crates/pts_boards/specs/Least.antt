-- A least number: the rule of its board, and what its steps tell.
use Rattle.std.specs.Prelude.{◌≡◌, ◌⊎◌, ℕ, ◌≤◌, false, List, [], ◌++◌, min, All}
use Rattle.pts_boards.specs.declared.least.Lowered.{Lowered}
use Rattle.pts_boards.specs.Numbers.{times, none_lower}
use Rattle.pts_boards.specs.Rule.{Sort}

-- a seat that lowered these numbers, and the least answer that it was given
abbrev pub lowered : List ℕ → ℕ → Lowered
lowered numbers least = record { numbers = numbers; least = least }

-- the word is the least number of all lists, or the largest `u64`; what a seat was told is no less, and is of a list too, or the largest `u64`
abbrev pub least_sort : Sort Lowered
least_sort = record {
  nothing = lowered [] none_lower;
  passed = λ k. lowered [] k.least;
  merged = λ a b. lowered (a.numbers ++ b.numbers) (min a.least b.least);
  count = λ x k. times x k.numbers;
  is_marked = λ k. false;
  Agrees = λ terms word counted mark. ((x : ℕ) → 1 ≤ counted x → word ≤ x) × ((word ≡ none_lower) ⊎ (1 ≤ counted word)) × (word ≤ none_lower);
  Fits = λ terms word counted k. (word ≤ k.least) × ((k.least ≡ none_lower) ⊎ (1 ≤ counted k.least));
}

-- What an answer n of a look says: it is at most each number that the seat lowered and each answer before
pub record Tells (k : Lowered) (n : ℕ) (l : Lowered) : Type 0 where
  pub known : l ≡ lowered k.numbers n
  pub falls : n ≤ k.least
  pub below : All (λ x. n ≤ x) k.numbers
