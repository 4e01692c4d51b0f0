-- A search as it runs, position by position.
use Rattle.std.specs.Prelude.{◌≡◌, ℕ, ◌≤◌, Bool, true, false, Option, Some, None, List, take, count_by, slice_get}
use Rattle.pts_eval.specs.Maps.{is_match, NoneBefore, PermitsPlace}
use Rattle.pts_maps.specs.declared.answers.Answer.{Answer}
use Rattle.pts_maps.specs.Answers.{end_of}

-- at no position before this one does the predicate hold or throw
abbrev pub IsQuiet : List (Option Bool) → ℕ → Type 0
IsQuiet truths p = NoneBefore truths p (Some true) × NoneBefore truths p None

-- the answer is found before this position, or neither a match nor a throw is
abbrev pub IsPlace : List (Option Bool) → ℕ → Option Answer → Type 0
IsPlace truths p None = IsQuiet truths p
IsPlace truths p (Some answer) = PermitsPlace true truths (end_of answer)

-- so often does the predicate hold before this position, and it does not throw there
pub record AreCounted (truths : List (Option Bool)) (p n : ℕ) : Type 0 where
  pub count : n ≡ count_by is_match (take p truths)
  pub few : n ≤ p
  pub quiet : NoneBefore truths p None

-- what a position adds to the count
abbrev pub added : Bool → ℕ
added true = 1
added false = 0

-- this is counted, or the predicate throws at some position
abbrev pub IsCount : List (Option Bool) → ℕ → Option ℕ → Type 0
IsCount truths p (Some n) = AreCounted truths p n
IsCount truths p None = (q : ℕ) × (slice_get truths q ≡ Some None)
