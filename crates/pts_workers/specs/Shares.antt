-- How many workers share a call, and what they leave.
use Rattle.std.specs.Prelude.{ℕ, List, [], ◌∷◌, min, max}

-- how many workers share so many chunks: no more than there are chunks, and at least one
abbrev pub worker_count : ℕ → ℕ → ℕ
worker_count workers chunks = max 1 (min workers chunks)

-- each group and the state beside it, in order, are as Made says
pub data EachMade {S : Type 0} (Made : List ℕ → S → Type 0) : List (List ℕ) → List S → Type 0 where
  no_more : EachMade Made [] []
  one_more : (group : List ℕ) (state : S) (groups : List (List ℕ)) (states : List S)
      → Made group state → EachMade Made groups states → EachMade Made (group ∷ groups) (state ∷ states)
