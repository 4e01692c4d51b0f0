-- What a loop leaves in the cells of its clauses: reductions ([parallel.alg.reductions]) and inductions ([parallel.alg.inductions]).
use Rattle.std.specs.Prelude.{ℕ, ◌+◌, eqb, if◌then◌else◌, unwrap_or, Option, Some, None, Ok, List, [], ◌∷◌, ◌++◌, map, flat_map, slice_get}
use Rattle.std.specs.Result.{result_ok}
use Rattle.pts_types.specs.Arithmetic.{identity_of}
use Rattle.pts_types.specs.declared.value.Value.{Value}
use Rattle.pts_code.specs.declared.function.FunctionInfo.{FunctionInfo}
use Rattle.pts_code.specs.Functions.{outcome_of}
use Rattle.pts_code.specs.Outcomes.{Outcome}
use Rattle.pts_points.specs.Pieces as texts
use Rattle.pts_points.specs.Pieces.{Deed, Point}
use Rattle.pts_lowering.specs.declared.forms.CellIndex.{CellIndex}
use Rattle.pts_lowering.specs.declared.forms.InitialValue.{InitialValue}
use Rattle.pts_lowering.specs.declared.forms.InitialValue.TheVariants as initials
use Rattle.pts_lowering.specs.declared.forms.LoopClause.{LoopClause}
use Rattle.pts_lowering.specs.declared.forms.LoopClause.TheVariants as clauses
use Rattle.pts_lowering.specs.declared.forms.LoopReduction.{LoopReduction}
use Rattle.pts_lowering.specs.declared.forms.Operation.{Operation}
use Rattle.pts_lowering.specs.declared.forms.Operation.TheVariants as operations
use Rattle.pts_steps.specs.Steps.{view_number}
use Rattle.pts_store.specs.Stores.{Store}
use Rattle.pts_cells.specs.WrittenCells.{WrittenCells, with_value}
use Rattle.pts_groupings.specs.Laws.{given}
use Rattle.pts_groupings.specs.Reductions.{reduction_of}
use Rattle.pts_groupings.specs.Sums.{all_given}
use Rattle.pts_outcomes.specs.Acts.{Notes}
use Rattle.pts_passes.specs.Inductions.{induction_at, live_value}
use Rattle.pts_passes.specs.Passes.{Pass, text_points}

-- ---- contributions

-- the value that a point has noted; one that was not reached has noted none
abbrev pub value_noted : Option (Option Outcome) → List Value
value_noted (Some (Some (Ok value))) = value ∷ []
value_noted _ = []

-- what is given at a point to the view of the clause of this number
abbrev pub given_to : Pass → ℕ → Deed → Option (Option Outcome) → List Value
given_to pass clause (texts.Gives view x) noted = if eqb (view_number pass.text.clauses view) clause then value_noted noted else []
given_to pass clause deed noted = []

-- what is given to it at a position with these notes, in the order of the points
abbrev pub contributions : Pass → ℕ → Notes → List Value
contributions pass clause notes = flat_map (λ (x : Point). given_to pass clause x.deed (slice_get notes x.number)) (text_points pass)

-- ---- reductions

-- an operation on two values, or a throw
abbrev pub combining : List FunctionInfo → Operation → Value → Value → Option Value
combining functions (operations.Table op) x y = given op x y
combining functions (operations.Function number) x y = result_ok (outcome_of functions number (x ∷ y ∷ []))

-- the identity of the table for its operations, and for a function the one that the clause declares
abbrev pub identity_for : Operation → Option Value → Value → Value
identity_for (operations.Table op) declared live = identity_of op live
identity_for (operations.Function number) declared live = unwrap_or declared live

-- the reduction of the clause of this number over groups of chunks of this size, where the positions have these notes
abbrev pub reduced : Pass → Store → ℕ → List (List ℕ) → List Notes → ℕ → LoopReduction → Option Value
reduced pass store size groups noted clause x =
    reduction_of size groups (combining pass.functions x.operation) (live_value store x.cell) (identity_for x.operation x.identity (live_value store x.cell))
    (map (contributions pass clause) noted)

-- ---- live-outs

-- a cell of a clause with the value that it takes behind the loop, or a throw
abbrev pub LiveOut : Type 0
LiveOut = CellIndex × Option Value

-- that of an induction, if it names a cell
abbrev pub last_value : Option Value → InitialValue → List LiveOut
last_value value (initials.Value initial) = []
last_value value (initials.Cell cell) = (cell, value) ∷ []

-- those of clauses from this number on; each begins with what its cell holds before the loop
abbrev pub live_outs_from : Pass → Store → ℕ → List (List ℕ) → List Notes → ℕ → List LoopClause → List LiveOut
live_outs_from pass store size groups noted clause [] = []
live_outs_from pass store size groups noted clause (clauses.Reduction x ∷ rest) =
    (x.cell, reduced pass store size groups noted clause x) ∷ live_outs_from pass store size groups noted (clause + 1) rest
live_outs_from pass store size groups noted clause (clauses.Induction x ∷ rest) =
    last_value (induction_at store x pass.head.positions) x.initial ++ live_outs_from pass store size groups noted (clause + 1) rest

abbrev pub live_outs : Pass → Store → ℕ → List (List ℕ) → List Notes → List LiveOut
live_outs pass store size groups noted = live_outs_from pass store size groups noted 0 pass.head.clauses

-- their values, unless one is a throw
abbrev pub values_of : List LiveOut → Option (List Value)
values_of outs = all_given (map (λ x. x.1) outs)

-- they are assigned in their order, so that of two in one cell the later one stays
abbrev pub assigned : List LiveOut → WrittenCells → WrittenCells
assigned [] cells = cells
assigned ((cell, None) ∷ rest) cells = assigned rest cells
assigned ((cell, Some value) ∷ rest) cells = assigned rest (with_value cells (record { array = cell.array; index = cell.index }) value)
