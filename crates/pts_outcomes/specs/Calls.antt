-- Calls as their evaluations run: the outcome along a list of these, and which of them a policy keeps in order.
use Rattle.std.specs.Prelude.{ℕ, ◌+◌, Bool, true, false, ◌&&◌, if◌then◌else◌, eqb, nat_lt, Option, Some, None, List, replicate, set, slice_get}
use Rattle.std.specs.Option.{option_map}
use Rattle.pts_types.specs.declared.operation.Policy.{Policy}
use Rattle.pts_types.specs.declared.operation.Policy.TheVariants as policies
use Rattle.pts_types.specs.declared.value.Value.{Value}
use Rattle.pts_code.specs.Outcomes.{Outcome}
use Rattle.pts_store.specs.Stores.{Store}
use Rattle.pts_orders.specs.Effects.{Cells, Locals, State, step_of}
use Rattle.pts_orders.specs.Evaluations.{Evaluation, is_within}
use Rattle.pts_orders.specs.Extensions.{IsLinearExtension}
use Rattle.pts_orders.specs.Grids.{index_order}
use Rattle.pts_orders.specs.Runs.{run}
use Rattle.pts_orders.specs.Windows.{fresh}
use Rattle.pts_outcomes.specs.Acts.{Notes, Point}
use Rattle.pts_outcomes.specs.Effects.{Effect, point_effect}
use Rattle.pts_cells.specs.WrittenCells.{Cell, WrittenCells, none_written, written_at, with_value}
use Rattle.pts_cells.proofs.Cells.{others, swaps}

-- ---- calls

-- The points of a call by their numbers, and how many of them are evaluated at how many positions: `count` from the first one on,
-- which stands behind the cells of clauses.
pub record Call : Type 0 where
  pub positions : ℕ
  pub first : ℕ
  pub count : ℕ
  pub points : List Point

-- each of these points at each position
abbrev pub is_evaluation : Call → Evaluation → Bool
is_evaluation call = is_within 0 call.positions call.first (call.first + call.count)

-- ---- the outcome along a list

abbrev pub cells : Cells WrittenCells Cell Value
cells = record { held = written_at; put = with_value; others = others; swaps = swaps }

-- what is noted at a position of a call
abbrev pub locals : Call → Locals Notes Outcome
locals call = record { nothing = replicate (call.first + call.count) None; noted = λ notes point outcome. set notes point (Some outcome) }

abbrev pub effect : Store → Call → Evaluation → Notes → WrittenCells → Effect
effect store call x notes cells = point_effect store (slice_get call.points x.point) x.position notes cells

abbrev pub step : Store → Call → Evaluation → State WrittenCells Notes → Option (State WrittenCells Notes)
step store call = step_of cells (locals call) (effect store call)

-- nothing is written, and nothing is noted
abbrev pub start : Store → Call → State WrittenCells Notes
start store call = fresh (locals call) call.positions (none_written store)

-- the outcome along a list of evaluations; None is a throw
abbrev pub outcome_along : Store → Call → List Evaluation → Option (State WrittenCells Notes)
outcome_along store call order = run (step store call) order (start store call)

-- what is written along it
abbrev pub written_along : Store → Call → List Evaluation → Option WrittenCells
written_along store call order = option_map (λ s. s.memory) (outcome_along store call order)

-- ---- orders

-- At one position points are in the order of their numbers. At two positions `across` says whether a point of the earlier one is before a
-- point of the later one ([parallel.alg.general.exec]).
abbrev pub is_before : (ℕ → ℕ → Bool) → Evaluation → Evaluation → Bool
is_before across x y = if eqb x.position y.position then nat_lt x.point y.point else nat_lt x.position y.position && across x.point y.point

-- of a call that is no loop, the policy that runs in order keeps all points in order, and no other policy any
abbrev pub keeps_order : Policy → ℕ → ℕ → Bool
keeps_order policies.Seq k m = true
keeps_order policy k m = false

-- position by position, and at each point by point
abbrev pub in_index_order : Call → List Evaluation
in_index_order call = index_order call.positions call.first call.count

-- all evaluations of a call, each once, in an order that is allowed
abbrev pub IsOrder : (ℕ → ℕ → Bool) → Call → List Evaluation → Type 0
IsOrder across call order = IsLinearExtension (is_evaluation call) (is_before across) order
