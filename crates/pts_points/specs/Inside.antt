-- Points whose cells lie in their arrays, and what is asked of a statement for that.
use Rattle.std.specs.Prelude.{◌≡◌, ℕ, ◌<◌, ◌≤◌, ◌-◌, ◌^◌, true, false, Some, None, List, [], ◌∷◌, ◌++◌, length, get_or, ℤ, pos, ◌≤ℤ◌, ◌<ℤ◌, All}
use Rattle.std.specs.List.{list_any}
use Rattle.pts_affine.specs.declared.line.Line.{Line}
use Rattle.pts_affine.specs.Lines.{cell, IsBounded}
use Rattle.pts_rules.specs.Parts.{Simple}
use Rattle.pts_rules.specs.Known.{Scope, as_array}
use Rattle.pts_rules.specs.Indices.{leaves, reaches}
use Rattle.pts_rules.specs.Limits.{is_long}
use Rattle.pts_rules.specs.Mistyped.{statement_right}
use Rattle.pts_rules.specs.Steps.{goes_backward}
use Rattle.pts_points.specs.declared.point.PointInfo.{PointInfo}

-- the lengths of the arrays, by their numbers
abbrev pub lengths : Scope → List ℤ
lengths [] = []
lengths (entry ∷ scope) = lengths scope ++ (elim (as_array entry.1) [ None ↦ [] | Some x ↦ x.1 ∷ [] ])

abbrev pub length_at : Scope → ℕ → ℤ
length_at scope n = get_or (lengths scope) n (pos 0)

-- a line whose cells are those of an array, with the bounds that its meetings ask
pub record IsWithin (scope : Scope) (array : ℕ) (line : Line) : Type 0 where
  pub cells : (p : ℕ) → p < line.n → (pos 0 ≤ℤ cell line p) × (cell line p <ℤ length_at scope array)
  pub bounded : IsBounded line

abbrev pub IsInside : Scope → PointInfo → Type 0
IsInside scope point = IsWithin scope point.array point.line

-- no array is longer than 2^20, and their numbers have 32 bits
pub record HasRoom (scope : Scope) : Type 0 where
  pub short : All (λ z. z ≤ℤ pos (2 ^ 20)) (lengths scope)
  pub few : length (lengths scope) ≤ 2 ^ 32 - 1

-- a statement whose kinds and ranges are right, which is not too long, and which never leaves its arrays
pub record IsSound (scope : Scope) (x : Simple) : Type 0 where
  pub right : statement_right scope x ≡ true
  pub forward : goes_backward scope x ≡ false
  pub short : is_long scope x ≡ false
  pub stays : (p : ℕ) → list_any (leaves p) (reaches scope x) ≡ false
