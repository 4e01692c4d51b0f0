-- Laws of calls and their orders.
use Rattle.std.specs.Prelude.{◌≡◌, ℕ, Bool, List}
use Rattle.pts_types.specs.declared.operation.Policy.TheVariants.{Seq}
use Rattle.pts_store.specs.Stores.{Store}
use Rattle.pts_orders.specs.Conflicts as conflicts
use Rattle.pts_orders.specs.Effects.{AreApart, TouchLaw}
use Rattle.pts_orders.specs.Evaluations.{Evaluation}
use Rattle.pts_orders.specs.Runs.{Commute}
use Rattle.pts_outcomes.specs.Calls.{Call, IsOrder, cells, effect, in_index_order, is_before, is_evaluation, keeps_order, outcome_along, step}
use Rattle.pts_outcomes.specs.Touching.{Touches, writes}

-- what an evaluation does is told by its notes and by the cells that it may touch, and it writes no others
abbrev pub TouchesTell : Type 0
TouchesTell = (store : Store) (call : Call) → TouchLaw cells (effect store call) (Touches store call) (writes call)

-- evaluations at two positions commute where neither writes a cell that both may touch
abbrev pub ApartCommute : Type 0
ApartCommute = (store : Store) (call : Call) (x y : Evaluation) → AreApart (Touches store call) (writes call) x y → Commute (step store call) x y

-- no two evaluations of a call conflict: at two positions, where one is not before the other, neither writes a cell that both may touch
abbrev pub IsClear : Store → (ℕ → ℕ → Bool) → Call → Type 0
IsClear store across call = conflicts.IsClear (Touches store call) (writes call) (is_before across) (is_evaluation call)

-- index order is allowed
abbrev pub IndexOrderIsAllowed : Type 0
IndexOrderIsAllowed = (across : ℕ → ℕ → Bool) (call : Call) → IsOrder across call (in_index_order call)

-- where no two evaluations conflict, each order that is allowed has the outcome of index order
abbrev pub OrdersAgree : Type 0
OrdersAgree =
    (store : Store) (across : ℕ → ℕ → Bool) (call : Call) → IsClear store across call
    → (order : List Evaluation) → IsOrder across call order → outcome_along store call order ≡ outcome_along store call (in_index_order call)

-- a call that runs in order has no conflict
abbrev pub InOrderIsClear : Type 0
InOrderIsClear = (store : Store) (call : Call) → IsClear store (keeps_order Seq) call
