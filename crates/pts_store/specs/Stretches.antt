-- A stretch of a list that shows what is written, while all else stays.
use Rattle.std.specs.Prelude.{◌≡◌, ℕ, ◌+◌, ◌<◌, ◌≤◌, List, slice_get}
use Rattle.std.specs.Option.{option_map}

-- `size` places from `base` on show what `writes` has for them
pub record Shows {X W : Type 0} (shown : W → X → X) (writes : ℕ → W) (base size : ℕ) (old new : List X) : Type 0 where
  pub inside : (k : ℕ) → k < size → slice_get new (base + k) ≡ option_map (shown (writes k)) (slice_get old (base + k))
  pub before : (k : ℕ) → k < base → slice_get new k ≡ slice_get old k
  pub behind : (k : ℕ) → base + size ≤ k → slice_get new k ≡ slice_get old k
