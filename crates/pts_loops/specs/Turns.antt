-- How far a loop has come, position by position and at each point by point.
use Rattle.std.specs.Prelude.{◌≡◌, ℕ, suc, ◌+◌, ◌-◌, ◌<◌, ◌≤◌, Bool, true, false, All, Option, Some, None, List, [], ◌∷◌, ◌++◌, length, map, flat_map, fold, take, set, get_or, slice_get}
use Rattle.pts_types.specs.declared.value.Value.{Value}
use Rattle.pts_code.specs.declared.function.FunctionInfo.{FunctionInfo}
use Rattle.pts_points.specs.declared.point.PointInfo.{PointInfo}
use Rattle.pts_points.specs.Pieces.{Point}
use Rattle.pts_points.specs.Points.{info}
use Rattle.pts_lowering.specs.declared.forms.LoopClause.{LoopClause}
use Rattle.pts_lowering.specs.declared.forms.LoopClause.TheVariants as clauses
use Rattle.pts_program.specs.declared.info.ArrayInfo.{ArrayInfo}
use Rattle.pts_program.specs.Ranges.{IsInRange}
use Rattle.pts_steps.specs.declared.step.Step.{Step}
use Rattle.pts_steps.specs.Steps.{AreSteps}
use Rattle.pts_store.specs.Overlays.{Layer}
use Rattle.pts_store.specs.Stores.{Store, accepted, put_cell}
use Rattle.pts_store.specs.Writes.{PutsCell}
use Rattle.pts_orders.specs.Effects as effects
use Rattle.pts_orders.specs.Effects.{State}
use Rattle.pts_orders.specs.Evaluations.{Evaluation}
use Rattle.pts_orders.specs.Grids.{grid, points_at}
use Rattle.pts_orders.specs.Runs.{run}
use Rattle.pts_cells.specs.WrittenCells.{AreCellsOf, AreWritten, WrittenCells}
use Rattle.pts_groupings.specs.Brackets.{combined}
use Rattle.pts_outcomes.specs.Acts.{Notes}
use Rattle.pts_outcomes.specs.Calls.{Call, in_index_order, locals, outcome_along, step}
use Rattle.pts_outcomes.specs.Effects.{Effect}
use Rattle.pts_passes.specs.Inductions.{head_values, initial_in, live_value}
use Rattle.pts_passes.specs.LiveOuts.{combining, contributions}
use Rattle.pts_passes.specs.Passes.{Pass, call_of, names, text_points}
use Rattle.pts_loop_points.specs.LoopPoints.{HasClauseCell, HasIndices, IsOnLine, moved}
use Rattle.pts_loops.specs.declared.run.Run.{Run}
use Rattle.pts_loops.specs.declared.turn.Turn.{Turn}

-- ---- loops

-- the loop that runs
abbrev pub pass_of : Run → Pass
pass_of run = record { text = run.text.now; arrays = run.arrays.now; functions = run.functions.now; head = run.head.now }

-- What a loop is told of its program: these steps are those of the points of its text, and these points, shown behind so many of its
-- item, are its points, on lines in its arrays. The index has a value at each position, and the cells of the clauses are there.
pub record IsReadyAs (pass : Pass) (call first_point : ℕ) (done : List Step) (infos : List PointInfo) : Type 0 where
  pub steps : AreSteps (names pass) pass.text (text_points pass) done
  pub item : ℕ
  pub offs_before : ℕ
  pub points : infos ≡ map (λ x. moved item (Some call) first_point offs_before (info 0 x)) (text_points pass)
  pub lines : (k : ℕ) (x : Point) → slice_get (text_points pass) k ≡ Some x → IsOnLine x.deed
  pub range : All (IsInRange pass.arrays) infos
  pub indices : HasIndices pass.head
  pub clause_cells : All (HasClauseCell pass.arrays) pass.head.clauses

abbrev pub IsReady : Run → Type 0
IsReady run = IsReadyAs (pass_of run) run.call run.first_point run.steps.now run.points.now

-- ---- accumulators

-- what a clause begins with: the value of its cell, or the initial value
abbrev pub begins_with : Store → LoopClause → Value
begins_with store (clauses.Reduction x) = live_value store x.cell
begins_with store (clauses.Induction x) = initial_in store x.initial

-- the accumulators of clauses from a number on, to whose views these values have been given; inductions have none
abbrev pub accumulated : List FunctionInfo → Store → (ℕ → List Value) → ℕ → List LoopClause → List (Option Value)
accumulated functions store given clause [] = []
accumulated functions store given clause (clauses.Reduction x ∷ rest) =
    fold (combined (combining functions x.operation)) (Some (live_value store x.cell)) (map Some (given clause))
    ∷ accumulated functions store given (clause + 1) rest
accumulated functions store given clause (clauses.Induction x ∷ rest) = None ∷ accumulated functions store given (clause + 1) rest

-- the accumulators behind positions with these notes
abbrev pub accumulators : Pass → Store → List Notes → List (Option Value)
accumulators pass store noted = accumulated pass.functions store (λ clause. flat_map (contributions pass clause) noted) 0 pass.head.clauses

-- that of a clause before all positions
abbrev pub first_accumulator : Store → LoopClause → Option Value
first_accumulator store (clauses.Reduction x) = Some (live_value store x.cell)
first_accumulator store (clauses.Induction x) = None

-- ---- effects

-- what is written stands in the overlay
pub record Stands (store : Store) (memory : WrittenCells) (layer : Layer) : Type 0 where
  pub cells : AreCellsOf store memory
  pub written : AreWritten memory layer.writes
  pub stands : layer.stands ≡ accepted store layer.writes

-- all but the overlay and the notes is as before
pub record Keeps (old new : Turn) : Type 0 where
  pub below : new.layer.below ≡ old.layer.below
  pub first : new.first ≡ old.first
  pub begun : new.begun.items ≡ old.begun.items
  pub values : new.values.items ≡ old.values.items
  pub accumulators : new.accumulators.items ≡ old.accumulators.items

-- an effect is made at a point
abbrev pub Makes : Effect → ℕ → Bool → Turn → Turn → Type 0
Makes effects.Skips k true old new = (new.layer ≡ old.layer) × (new.notes.items ≡ old.notes.items)
Makes (effects.Notes outcome) k true old new = (new.layer ≡ old.layer) × (new.notes.items ≡ set old.notes.items k (Some outcome))
Makes (effects.Puts c value) k true old new =
    (new.layer.stands ≡ put_cell old.layer.stands c.array c.index value) × PutsCell old.layer.writes new.layer.writes c.array c.index value
    × (new.notes.items ≡ old.notes.items)
Makes effects.Throws k false old new = Unit {0}
Makes effect k goes old new = ⊥

-- ---- turns

abbrev pub call_in : Run → Store → Call
call_in now store = call_of (pass_of now) store

-- behind the last point
abbrev pub last : Run → Store → ℕ
last now store = (call_in now store).first + (call_in now store).count

-- the points from one on at a position, and then all at the positions behind it
abbrev pub rest_from : Run → Store → ℕ → ℕ → List Evaluation
rest_from now store p k =
    points_at p k (last now store - k) ++ grid (suc p) (now.head.now.positions - suc p) (call_in now store).first (call_in now store).count

-- what a turn keeps at each point and at each position
pub record IsRunning (now : Run) (store : Store) (p : ℕ) (state : State WrittenCells Notes) (turn : Turn) : Type 0 where
  pub size : length state.locals ≡ now.head.now.positions
  pub count : length turn.notes.items ≡ last now store
  pub stands : Stands store state.memory turn.layer
  pub first : turn.first ≡ (call_in now store).first
  pub begun : turn.begun.items ≡ map (begins_with store) now.head.now.clauses
  pub given : turn.accumulators.items ≡ accumulators (pass_of now) store (take p state.locals)

-- The points before this one have run at a position, and all points at the positions before it: what is left brings all that
-- index order brings from the start.
pub record IsAtPoint (now : Run) (store : Store) (p k : ℕ) (turn : Turn) : Type 0 where
  pub state : State WrittenCells Notes
  pub running : IsRunning now store p state turn
  pub own : get_or state.locals p (locals (call_in now store)).nothing ≡ turn.notes.items
  pub fresh : (q : ℕ) → p < q → get_or state.locals q (locals (call_in now store)).nothing ≡ (locals (call_in now store)).nothing
  pub values : turn.values.items ≡ head_values store now.head.now p
  pub left : run (step store (call_in now store)) (rest_from now store p k) state ≡ outcome_along store (call_in now store) (in_index_order (call_in now store))

-- The positions before this one have run.
pub record IsAtPosition (now : Run) (store : Store) (p : ℕ) (turn : Turn) : Type 0 where
  pub state : State WrittenCells Notes
  pub running : IsRunning now store p state turn
  pub fresh : (q : ℕ) → p ≤ q → get_or state.locals q (locals (call_in now store)).nothing ≡ (locals (call_in now store)).nothing
  pub left : run (step store (call_in now store)) (grid p (now.head.now.positions - p) (call_in now store).first (call_in now store).count) state
      ≡ outcome_along store (call_in now store) (in_index_order (call_in now store))

-- they have, or an evaluation throws
abbrev pub Goes : Run → Store → (Turn → Type 0) → Bool → Turn → Type 0
Goes now store P true turn = P turn
Goes now store P false turn = outcome_along store (call_in now store) (in_index_order (call_in now store)) ≡ None
