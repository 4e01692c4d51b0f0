-- Ranges and cells that lie in their arrays.
use Rattle.std.specs.Prelude.{◌≡◌, Some, IfSome, All, List, length, pos, ◌≤ℤ◌, ◌<ℤ◌, [], ⊤}
use Rattle.pts_tree.specs.declared.sum.Range.{Range}
use Rattle.pts_tree.specs.declared.sum.Cell.{Cell}
use Rattle.pts_tree.specs.declared.call.Call as call
use Rattle.pts_tree.specs.declared.loops.Clause.{Clause}
use Rattle.pts_tree.specs.declared.loops.Clause.TheVariants as clauses
use Rattle.pts_tree.specs.declared.loops.Initial.{Initial}
use Rattle.pts_tree.specs.declared.loops.Initial.TheVariants as initials
use Rattle.pts_rules.specs.Known.{number}
use Rattle.pts_rules.specs.Parts.{Simple, Throw, Assign, Call, Loop}
use Rattle.pts_program.specs.declared.info.ArrayInfo.{ArrayInfo}
use Rattle.pts_program.specs.Namings.{array_named}

-- 0 ≤ low ≤ high ≤ the length of its array
pub record HoldsRange (arrays : List ArrayInfo) (x : Range) : Type 0 where
  pub array : ArrayInfo
  pub named : array_named arrays x.array ≡ Some array
  pub low : pos 0 ≤ℤ number [] x.low
  pub forward : number [] x.low ≤ℤ number [] x.high
  pub high : number [] x.high ≤ℤ pos (length array.cells)

-- 0 ≤ index < the length of its array
pub record HoldsCell (arrays : List ArrayInfo) (x : Cell) : Type 0 where
  pub array : ArrayInfo
  pub named : array_named arrays x.array ≡ Some array
  pub low : pos 0 ≤ℤ number [] x.index
  pub high : number [] x.index <ℤ pos (length array.cells)

pub record HoldsCall (arrays : List ArrayInfo) (x : call.Call) : Type 0 where
  pub first : HoldsRange arrays x.first
  pub second : IfSome x.second (HoldsRange arrays)
  pub target : IfSome x.target (HoldsRange arrays)
  pub store : IfSome x.store (HoldsCell arrays)

abbrev pub HoldsInitial : List ArrayInfo → Initial → Type 0
HoldsInitial arrays (initials.Val x) = ⊤
HoldsInitial arrays (initials.Cell x) = HoldsCell arrays x

abbrev pub HoldsClause : List ArrayInfo → Clause → Type 0
HoldsClause arrays (clauses.Reduce x) = HoldsCell arrays x.cell
HoldsClause arrays (clauses.Induct x) = HoldsInitial arrays x.initial

-- the ranges and the cells of a statement, but for those of a loop's body
abbrev pub HoldsStatement : List ArrayInfo → Simple → Type 0
HoldsStatement arrays (Throw n) = ⊤
HoldsStatement arrays (Assign at x) = HoldsCell arrays at
HoldsStatement arrays (Call x) = HoldsCall arrays x
HoldsStatement arrays (Loop x) = All (HoldsClause arrays) x.clauses
