-- Numbers that are drawn once: what a contract sees of a board and of a seat, and the rule.
use Rattle.std.specs.Prelude.{◌≡◌, ℕ, ◌+◌, ◌<◌, ◌≤◌, Bool, true, false, ◌||◌, List, [], ◌∷◌, ◌++◌, min, All}
use Rattle.pts_boards.specs.declared.claims.Drawn.{Drawn}
use Rattle.pts_boards.specs.Numbers.{times, once_below, IsDistinct}
use Rattle.pts_boards.specs.Rule.{Sort}

-- a seat that drew these numbers, and whether it drew one past the end
abbrev pub drawn : List ℕ → Bool → Drawn
drawn numbers past = record { numbers = numbers; past = past }

-- The numbers of all seats are those below the lesser of the word and the parts, each once; the word passes the parts by no more than the weight that is past,
-- and only a word that has come to the parts makes a seat past
abbrev pub claim_sort : Sort Drawn
claim_sort = record {
  nothing = drawn [] false;
  passed = λ k. drawn [] k.past;
  merged = λ a b. drawn (a.numbers ++ b.numbers) (a.past || b.past);
  count = λ x k. times x k.numbers;
  is_marked = λ k. k.past;
  Agrees = λ terms word counted mark. ((x : ℕ) → counted x ≡ once_below (min word terms.parts) x) × (word ≤ terms.parts + mark);
  Fits = λ terms word counted k. k.past ≡ true → terms.parts ≤ word;
}

-- What an answer n of a claim says: it is above all that the seat drew; below the parts it goes to the end of the list, and else the seat is past
pub record Draws (parts : ℕ) (k : Drawn) (n : ℕ) (l : Drawn) : Type 0 where
  pub ascends : All (λ x. x < n) k.numbers
  pub drew : n < parts → l ≡ drawn (k.numbers ++ n ∷ []) k.past
  pub past : parts ≤ n → l ≡ drawn k.numbers true
  pub once : IsDistinct l.numbers

-- What a look at the word says: the seat drew no number twice
abbrev pub ShowsOnce : Drawn → Drawn → Type 0
ShowsOnce k l = (l ≡ k) × IsDistinct k.numbers
