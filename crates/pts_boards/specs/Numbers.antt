-- Lists of numbers: how often one stands there, and which is the least.
use Rattle.std.specs.Prelude.{◌≡◌, ℕ, ◌+◌, ◌≤◌, List, [], ◌∷◌, cond, eqb, ltb, min, length}

-- the largest `u64`, which stands for no number
abbrev pub none_lower : ℕ
none_lower = 18446744073709551615

-- how often x stands in the list
abbrev pub times : ℕ → List ℕ → ℕ
times x [] = 0
times x (y ∷ ys) = cond (eqb x y) 1 0 + times x ys

-- 1 for a number below the limit, and else 0
abbrev pub once_below : ℕ → ℕ → ℕ
once_below limit x = cond (ltb x limit) 1 0

-- no number stands in the list twice
abbrev pub IsDistinct : List ℕ → Type 0
IsDistinct xs = (x : ℕ) → times x xs ≤ 1

-- the list holds each number below its length, once
abbrev pub CountsUp : List ℕ → Type 0
CountsUp xs = (x : ℕ) → times x xs ≡ once_below (length xs) x

-- the least number of the list, or the largest `u64` where none is less
abbrev pub least_of : List ℕ → ℕ
least_of [] = none_lower
least_of (x ∷ xs) = min x (least_of xs)
