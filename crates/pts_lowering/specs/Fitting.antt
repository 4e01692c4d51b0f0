-- Statements that can be lowered: their numbers have 32 bits, and their values have the kinds of their places.
use Rattle.std.specs.Prelude.{⊤, ◌^◌, ◌-◌, ◌≤◌, count_by, All, IsTrue, IfSome, List, ℤ, pos, ◌≤ℤ◌, ◌<ℤ◌}
use Rattle.pts_tree.specs.declared.sum.Range.{Range}
use Rattle.pts_tree.specs.declared.sum.Cell.{Cell}
use Rattle.pts_tree.specs.declared.call.Call as call
use Rattle.pts_tree.specs.declared.loops.Clause.{Clause}
use Rattle.pts_tree.specs.declared.loops.Clause.TheVariants as clauses
use Rattle.pts_tree.specs.declared.loops.Initial.{Initial}
use Rattle.pts_tree.specs.declared.loops.Initial.TheVariants as initials
use Rattle.pts_rules.specs.Parts.{Simple}
use Rattle.pts_rules.specs.Known.{Scope, has, is_function, number}
use Rattle.pts_rules.specs.Mistyped.{clause_right, sum_kind, sum_right}
use Rattle.pts_points.specs.Inside.{HasRoom, IsSound}

-- a number of 32 bits
pub record IsWord (z : ℤ) : Type 0 where
  pub low : pos 0 ≤ℤ z
  pub high : z <ℤ pos (2 ^ 32)

-- the numbers of arrays and functions have 32 bits, and no array is longer than 2^20
pub record HasNumbers (scope : Scope) : Type 0 where
  pub room : HasRoom scope
  pub functions : count_by (λ entry. is_function entry.1) scope ≤ 2 ^ 32 - 1

pub record IsRange (scope : Scope) (x : Range) : Type 0 where
  pub low : IsWord (number scope x.low)
  pub high : IsWord (number scope x.high)

abbrev pub IsIndex : Scope → Cell → Type 0
IsIndex scope x = IsWord (number scope x.index)

-- the ranges and the cell of a call
pub record HasCells (scope : Scope) (x : call.Call) : Type 0 where
  pub first : IsRange scope x.first
  pub second : IfSome x.second (IsRange scope)
  pub target : IfSome x.target (IsRange scope)
  pub store : IfSome x.store (IsIndex scope)

-- a sum or a scan whose values have its kind
abbrev pub IsSummable : Scope → call.Call → Type 0
IsSummable scope x = IsTrue (has (sum_right scope x) (sum_kind scope x))

-- ---- loops

-- the cell that an induction begins with, where it has one
abbrev pub HasInitialIndex : Scope → Initial → Type 0
HasInitialIndex scope (initials.Val x) = ⊤
HasInitialIndex scope (initials.Cell x) = IsIndex scope x

abbrev pub HasClauseIndex : Scope → Clause → Type 0
HasClauseIndex scope (clauses.Reduce x) = IsIndex scope x.cell
HasClauseIndex scope (clauses.Induct x) = HasInitialIndex scope x.initial

-- a clause that is right, with its cell
pub record IsHead (scope : Scope) (x : Clause) : Type 0 where
  pub right : IsTrue (clause_right scope x)
  pub cell : HasClauseIndex scope x

-- ---- statements

-- sound statements
pub record CanLower (scope : Scope) (xs : List Simple) : Type 0 where
  pub numbered : HasNumbers scope
  pub sound : All (IsSound scope) xs
