-- An alarm: the rule of its board, and what its steps tell.
use Rattle.std.specs.Prelude.{◌≡◌, ℕ, ◌+◌, ◌≤◌, Bool, true, false, ◌||◌, ltb}
use Rattle.pts_boards.specs.declared.alarm.Raises.{Raises}
use Rattle.pts_boards.specs.Rule.{Sort}

-- a seat that raised so often, whether it has raised, and whether it saw a raise
abbrev pub raises : ℕ → Bool → Bool → Raises
raises count raised seen = record { count = count; raised = raised; seen = seen }

-- the word is the sum of all raises, and at most the weight that has raised; a raise that was seen is in the word
abbrev pub alarm_sort : Sort Raises
alarm_sort = record {
  nothing = raises 0 false false;
  passed = λ k. raises 0 k.raised k.seen;
  merged = λ a b. raises (a.count + b.count) (a.raised || b.raised) (a.seen || b.seen);
  count = λ x k. k.count;
  is_marked = λ k. k.raised;
  Agrees = λ terms word counted mark. (word ≡ counted 0) × (word ≤ mark);
  Fits = λ terms word counted k. k.seen ≡ true → 1 ≤ word;
}

-- What a look at the word says: it holds the seat's raises, and all of them where the seat has the whole weight
pub record Shows (shares weight : ℕ) (k : Raises) (n : ℕ) (l : Raises) : Type 0 where
  pub known : l ≡ raises k.count k.raised (ltb 0 n)
  pub again : k.seen ≡ true → 1 ≤ n
  pub own : k.count ≤ n
  pub whole : weight ≡ shares → n ≡ k.count
