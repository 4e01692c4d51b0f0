-- Loops that show the same points without constants.
use Rattle.std.specs.Prelude.{◌≡◌, ⊤, ◌<◌, ◌^◌, false, None, flat_map, All, ℤ, nat_abs}
use Rattle.pts_tree.specs.declared.sum.Cell.{Cell}
use Rattle.pts_tree.specs.declared.loops.Loop as loops
use Rattle.pts_tree.specs.declared.loops.Clause.{Clause}
use Rattle.pts_tree.specs.declared.loops.Clause.TheVariants as clauses
use Rattle.pts_tree.specs.declared.loops.Initial.{Initial}
use Rattle.pts_tree.specs.declared.loops.Initial.TheVariants as initials
use Rattle.pts_rules.specs.Counts.{step_of}
use Rattle.pts_rules.specs.Indices.{has_not_affine, places}
use Rattle.pts_rules.specs.Known.{Scope, constant_of, number}
use Rattle.pts_rules.specs.Parts.{Name, Loop}
use Rattle.pts_points.specs.Points.{array_at}

-- an array has its number among the names of arrays and functions too
abbrev pub HasItsNumber : Scope → Scope → Name → Type 0
HasItsNumber scope names name = array_at names name ≡ array_at scope name

-- a number whose size 64 bits hold
abbrev pub IsSmall : ℤ → Type 0
IsSmall z = nat_abs z < 2 ^ 64

-- the cell of a clause
pub record IsCellOf (scope names : Scope) (x : Cell) : Type 0 where
  pub array : HasItsNumber scope names x.array
  pub index : IsSmall (number scope x.index)

abbrev pub IsInitialOf : Scope → Scope → Initial → Type 0
IsInitialOf scope names (initials.Val x) = ⊤
IsInitialOf scope names (initials.Cell x) = IsCellOf scope names x

abbrev pub IsClauseOf : Scope → Scope → Clause → Type 0
IsClauseOf scope names (clauses.Reduce x) = IsCellOf scope names x.cell
IsClauseOf scope names (clauses.Induct x) = IsInitialOf scope names x.initial

-- A loop in a scope of constants, arrays and functions, whose indices are lines, whose numbers are small, and whose index is no
-- constant. Its arrays have their numbers among the names of arrays and functions, which are no constants.
pub record IsLoopOf (scope names : Scope) (x : loops.Loop) : Type 0 where
  pub plain : (name : Name) → constant_of names name ≡ None
  pub index : constant_of scope x.index ≡ None
  pub lines : has_not_affine scope (Loop x) ≡ false
  pub arrays : All (λ at. HasItsNumber scope names at.array) (flat_map places x.body)
  pub clauses : All (IsClauseOf scope names) x.clauses
  pub low : IsSmall (number scope x.low)
  pub high : IsSmall (number scope x.high)
  pub step : IsSmall (step_of scope x.step)
