-- What private functions say of eight lanes. No clause of a public function cites it.
use Rattle.std.specs.Prelude.{◌≡◌, ℕ, ℤ, Bool, List, length, fold, FitsSigned}
use Rattle.std.specs.Simd.Lanes.{Each1}
use mir.Syntax.{w64}
use Rattle.std.specs.Int.{int_min, int_max}
use Rattle.pts_types.specs.Arithmetic.{number_of, sum_u64}

-- eight lanes that, folded by f, add to any value what the items add to it step by step
abbrev pub StandFor : {T : Type 0} → (ℕ → ℕ → ℕ) → (ℕ → T → ℕ) → List ℕ → List T → Type 0
StandFor f step lanes items = (length lanes ≡ 8) × ((a : ℕ) → fold f a lanes ≡ fold step a items)

-- one more truth in a count
abbrev pub counted : ℕ → Bool → ℕ
counted n b = sum_u64 n (number_of b)

-- one more number between a least and a greatest one
abbrev pub widened : ℤ × ℤ → ℤ → ℤ × ℤ
widened ends x = (int_min ends.0 x, int_max ends.1 x)

-- a number of kind i64, as lanes keep it
abbrev pub IsKept : ℤ → Type 0
IsKept z = FitsSigned w64 z

-- eight lanes with the least and eight with the greatest of the items, whatever these are compared with
abbrev pub Enclose : List ℤ × List ℤ → List ℤ → Type 0
Enclose lanes items = record {
  least : (a : ℤ) → fold int_min a lanes.0 ≡ fold int_min a items;
  greatest : (a : ℤ) → fold int_max a lanes.1 ≡ fold int_max a items;
  eight : (length lanes.0 ≡ 8) × (length lanes.1 ≡ 8);
  low : Each1 IsKept lanes.0;
  high : Each1 IsKept lanes.1;
}
