-- What is given to views at a position, step by step.
use Rattle.std.specs.Prelude.{ℕ, ◌+◌, Option, Some, None, List, [], ◌∷◌, Ok, get_or, set, slice_get}
use Rattle.pts_types.specs.declared.value.Value.{Value}
use Rattle.pts_code.specs.declared.function.FunctionInfo.{FunctionInfo}
use Rattle.pts_code.specs.Outcomes.{Outcome}
use Rattle.pts_lowering.specs.declared.forms.LoopClause.{LoopClause}
use Rattle.pts_lowering.specs.declared.forms.LoopClause.TheVariants as clauses
use Rattle.pts_steps.specs.declared.step.Step.{Step}
use Rattle.pts_steps.specs.declared.step.Step.TheVariants as steps
use Rattle.pts_groupings.specs.Brackets.{combined}
use Rattle.pts_outcomes.specs.Acts.{Notes}
use Rattle.pts_passes.specs.LiveOuts.{combining}

-- an accumulator to which a value has been given; an induction has none
abbrev pub added : List FunctionInfo → LoopClause → Option Value → Value → Option Value
added functions (clauses.Reduction x) accumulator value = combined (combining functions x.operation) accumulator (Some value)
added functions (clauses.Induction x) accumulator value = accumulator

-- the accumulators, where the value is given to the clause of this number
abbrev pub added_at : List FunctionInfo → List LoopClause → ℕ → Value → List (Option Value) → List (Option Value)
added_at functions clauses number value accumulators =
    elim (slice_get clauses number) [
      | None ↦ accumulators
      | Some clause ↦ set accumulators number (added functions clause (get_or accumulators number None) value)
    ]

-- where a value has been noted
abbrev pub added_note : List FunctionInfo → List LoopClause → ℕ → Option (Option Outcome) → List (Option Value) → List (Option Value)
added_note functions clauses number (Some (Some (Ok value))) accumulators = added_at functions clauses number value accumulators
added_note functions clauses number _ accumulators = accumulators

-- what a step with this note gives
abbrev pub gathered_step : List FunctionInfo → List LoopClause → Step → Option (Option Outcome) → List (Option Value) → List (Option Value)
gathered_step functions clauses (steps.Give number code) note accumulators = added_note functions clauses number note accumulators
gathered_step functions clauses step _ accumulators = accumulators

-- what steps give, whose notes stand from a number on
abbrev pub gathered : List FunctionInfo → List LoopClause → Notes → ℕ → List Step → List (Option Value) → List (Option Value)
gathered functions clauses notes k [] accumulators = accumulators
gathered functions clauses notes k (step ∷ steps) accumulators =
    gathered functions clauses notes (k + 1) steps (gathered_step functions clauses step (slice_get notes k) accumulators)
