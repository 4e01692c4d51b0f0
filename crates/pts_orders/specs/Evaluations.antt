-- Evaluations of a call: its points at its positions, and lists of them.
use Rattle.std.specs.Prelude.{ℕ, ◌+◌, Bool, true, false, ◌&&◌, ◌||◌, List, [], ◌∷◌, nat_eq, nat_lt, nat_le, ⊤}

-- the point of this number at a position
pub record Evaluation : Type 0 where
  pub position : ℕ
  pub point : ℕ

-- an evaluation by its numbers
abbrev pub at : ℕ → ℕ → Evaluation
at position point = record { position = position; point = point }

-- a position and a point are those of another
abbrev pub is_same : Evaluation → Evaluation → Bool
is_same x y = nat_eq x.position y.position && nat_eq x.point y.point

-- x stands before y where position by position is run, and point by point at each
abbrev pub is_earlier : Evaluation → Evaluation → Bool
is_earlier x y = nat_lt x.position y.position || (nat_eq x.position y.position && nat_lt x.point y.point)

-- at a position from a start on and before an end, a point from the first one on and before the last number
abbrev pub is_within : ℕ → ℕ → ℕ → ℕ → Evaluation → Bool
is_within start end first last x = nat_le start x.position && nat_lt x.position end && nat_le first x.point && nat_lt x.point last

-- 1 where it is so, and else 0
abbrev pub one_if : Bool → ℕ
one_if true = 1
one_if false = 0

-- how often an evaluation stands in a list
abbrev pub times : Evaluation → List Evaluation → ℕ
times x [] = 0
times x (y ∷ ys) = one_if (is_same x y) + times x ys

-- a fact of each element
abbrev pub Each : (Evaluation → Type 0) → List Evaluation → Type 0
Each P [] = ⊤
Each P (x ∷ xs) = P x × Each P xs

-- a fact of each element and each one behind it
abbrev pub Pairs : (Evaluation → Evaluation → Type 0) → List Evaluation → Type 0
Pairs R [] = ⊤
Pairs R (x ∷ xs) = Each (R x) xs × Pairs R xs
