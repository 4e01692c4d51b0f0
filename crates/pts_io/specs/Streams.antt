-- When a call on the outside may fail, and what of a stream of bytes goes through a loop over it.
use Rattle.std.specs.Prelude.{◌≡◌, ◌⊎◌, ℕ, ◌+◌, ◌<◌, List, Option, length, min}
use Rattle.std.specs.Io.KnownBytes.{Consumes}

-- a count of faults stands still at this number
abbrev pub last_count : ℕ
last_count = 18446744073709551615

-- a count after one more, which stands still at its last value
abbrev pub raised : ℕ → ℕ
raised count = min (count + 1) last_count

-- a count of faults rose, or stands at its last value
abbrev pub HasRisen : ℕ → ℕ → Type 0
HasRisen before after = (before < after) ⊎ (after ≡ last_count)

-- known bytes lose their first n
abbrev pub LosesFront : Option (List ℕ) → Option (List ℕ) → ℕ → Type 0
LosesFront old new n = (front : List ℕ) × Consumes old new front × (length front ≡ n)

-- what is left of known bytes is an end of them
abbrev pub KeepsAnEnd : Option (List ℕ) → Option (List ℕ) → Type 0
KeepsAnEnd old new = (front : List ℕ) × Consumes old new front
