-- The cells of clauses as they are assigned behind a loop, clause by clause.
use Rattle.std.specs.Prelude.{◌≡◌, ℕ, Bool, true, false, option_map, Option, Some, None, List, [], ◌∷◌, ◌++◌, length, map, drop}
use Rattle.pts_types.specs.declared.value.Value.{Value}
use Rattle.pts_lowering.specs.declared.forms.LoopClause.{LoopClause}
use Rattle.pts_lowering.specs.declared.forms.LoopClause.TheVariants as clauses
use Rattle.pts_store.specs.Stores.{Store, put_cell}
use Rattle.pts_store.specs.Writes.{PutsCell}
use Rattle.pts_orders.specs.Effects.{State}
use Rattle.pts_cells.specs.WrittenCells.{AreWritten, WrittenCells}
use Rattle.pts_outcomes.specs.Acts.{Notes}
use Rattle.pts_outcomes.specs.Calls.{in_index_order, outcome_along}
use Rattle.pts_passes.specs.Inductions.{induction_at}
use Rattle.pts_passes.specs.LiveOuts.{LiveOut, assigned, last_value, values_of}
use Rattle.pts_loops.specs.declared.run.Run.{Run}
use Rattle.pts_loops.specs.declared.turn.Turn.{Turn}
use Rattle.pts_loops.specs.Turns.{Stands, accumulators, begins_with, call_in, pass_of}

-- what is assigned for a clause with this accumulator
abbrev pub out_of : Store → ℕ → LoopClause → Option Value → List LiveOut
out_of store positions (clauses.Reduction x) accumulator = (x.cell, accumulator) ∷ []
out_of store positions (clauses.Induction x) accumulator = last_value (induction_at store x positions) x.initial

-- for clauses with their accumulators
abbrev pub outs : Store → ℕ → List LoopClause → List (Option Value) → List LiveOut
outs store positions [] accumulators = []
outs store positions (clause ∷ rest) [] = []
outs store positions (clause ∷ rest) (accumulator ∷ others) = out_of store positions clause accumulator ++ outs store positions rest others

abbrev pub all_outs : Run → Store → State WrittenCells Notes → List LiveOut
all_outs now store s = outs store now.head.now.positions now.head.now.clauses (accumulators (pass_of now) store s.locals)

-- one of them is assigned, if there is one; false where it is a throw
abbrev pub Assigns : List LiveOut → Bool → Turn → Turn → List Value → List Value → Type 0
Assigns [] true old new before after = (new.layer ≡ old.layer) × (after ≡ before)
Assigns ((cell, Some value) ∷ []) true old new before after =
    (new.layer.stands ≡ put_cell old.layer.stands cell.array cell.index value) × PutsCell old.layer.writes new.layer.writes cell.array cell.index value
    × (after ≡ before ++ value ∷ [])
Assigns ((cell, None) ∷ []) false old new before after = Unit {0}
Assigns outs goes old new before after = ⊥

-- The cells of the clauses before this one are assigned: what is left assigns what all do.
pub record IsAssigning (now : Run) (store : Store) (j : ℕ) (turn : Turn) (values : List Value) : Type 0 where
  pub state : State WrittenCells Notes
  pub size : length state.locals ≡ now.head.now.positions
  pub outcome : outcome_along store (call_in now store) (in_index_order (call_in now store)) ≡ Some state
  pub begun : turn.begun.items ≡ map (begins_with store) now.head.now.clauses
  pub given : turn.accumulators.items ≡ accumulators (pass_of now) store state.locals
  pub memory : WrittenCells
  pub stands : Stands store memory turn.layer
  pub left : assigned (outs store now.head.now.positions (drop j now.head.now.clauses) (drop j turn.accumulators.items)) memory ≡ assigned (all_outs now store state) state.memory
  pub values_left : option_map (λ rest. values ++ rest) (values_of (outs store now.head.now.positions (drop j now.head.now.clauses) (drop j turn.accumulators.items)))
      ≡ values_of (all_outs now store state)

-- all are assigned
pub record AreAssigned (now : Run) (store : Store) (turn : Turn) (values : List Value) : Type 0 where
  pub state : State WrittenCells Notes
  pub size : length state.locals ≡ now.head.now.positions
  pub outcome : outcome_along store (call_in now store) (in_index_order (call_in now store)) ≡ Some state
  pub given : values_of (all_outs now store state) ≡ Some values
  pub written : AreWritten (assigned (all_outs now store state) state.memory) turn.layer.writes

-- one of them is a throw
pub record IsThrown (now : Run) (store : Store) : Type 0 where
  pub state : State WrittenCells Notes
  pub size : length state.locals ≡ now.head.now.positions
  pub outcome : outcome_along store (call_in now store) (in_index_order (call_in now store)) ≡ Some state
  pub thrown : values_of (all_outs now store state) ≡ None

abbrev pub Ends : Run → Store → Bool → Turn → List Value → Type 0
Ends now store true turn values = AreAssigned now store turn values
Ends now store false turn values = IsThrown now store
