-- The first positions at which ranges and lines are past their arrays.
use Rattle.std.specs.Prelude.{ℕ, ◌≤◌, IsTrue, MatchOption, ◌+◌, ◌/◌, min, nat_lt, Bool, ◌&&◌, if◌then◌else◌, Option, Some, None, List, [], ◌∷◌, ℤ, pos, ◌-ℤ◌, nat_abs, int_lt, int_le}
use Rattle.pts_affine.specs.declared.line.Line.{Line}
use Rattle.pts_rules.specs.Known.{natural}
use Rattle.pts_rules.specs.Indices.{Reach, Span, Along}

-- ---- one reach

-- a range from low on and before high, of an array of this length
abbrev pub span_first : ℤ → ℤ → ℤ → Option ℕ
span_first low high length = if int_lt length high then Some (natural (length -ℤ low)) else None

-- how far a line may go from cell d on: to the last cell where it rises, else to cell 0
abbrev pub room : ℤ → ℤ → ℤ → ℕ
room c d length = if int_lt (pos 0) c then natural (length -ℤ d -ℤ pos 1) else natural d

-- the first of n positions that is farther than the room, at a pace of so many cells
abbrev pub first_past : ℕ → ℕ → ℕ → Option ℕ
first_past pace far n = if nat_lt 0 pace && nat_lt (far / pace + 1) n then Some (far / pace + 1) else None

-- a line whose first cell the array has may leave it later
abbrev pub later_off : Line → ℤ → Option ℕ
later_off line length = first_past (nat_abs line.c) (room line.c line.d length) line.n

-- a line over an array of this length
abbrev pub first_off : Line → ℤ → Option ℕ
first_off line length = if nat_lt 0 line.n then (if int_le (pos 0) line.d && int_lt line.d length then later_off line length else Some 0) else None

abbrev pub first_leaving : Reach → Option ℕ
first_leaving (Span low high length) = span_first low high length
first_leaving (Along line length) = first_off line length

-- ---- many reaches

-- the earlier of two positions
abbrev pub sooner : Option ℕ → Option ℕ → Option ℕ
sooner None y = y
sooner (Some x) None = Some x
sooner (Some x) (Some y) = Some (min x y)

-- the earliest that the elements of a list give
abbrev pub soonest : {A : Type 0} → (A → Option ℕ) → List A → Option ℕ
soonest f [] = None
soonest f (x ∷ xs) = sooner (f x) (soonest f xs)

-- ---- what makes a position the first

-- the least at which the test holds; None where it holds nowhere
abbrev pub IsFirst : (ℕ → Bool) → Option ℕ → Type 0
IsFirst test x = MatchOption x ((p : ℕ) → ¬ IsTrue (test p)) (λ p. IsTrue (test p) × ((q : ℕ) → IsTrue (test q) → p ≤ q))
