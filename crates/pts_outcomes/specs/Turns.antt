-- How far a run in index order has come.
use Rattle.std.specs.Prelude.{◌≡◌, ℕ, ◌-◌, ◌≤◌, Option, List, length, get_or}
use Rattle.std.specs.Option.{option_map}
use Rattle.pts_store.specs.Overlays.{Layer}
use Rattle.pts_store.specs.Stores.{Store, accepted}
use Rattle.pts_orders.specs.Effects.{State}
use Rattle.pts_orders.specs.Grids.{grid}
use Rattle.pts_orders.specs.Runs.{run}
use Rattle.pts_cells.specs.WrittenCells.{AreCellsOf, AreWritten, WrittenCells}
use Rattle.pts_outcomes.specs.Acts.{Notes}
use Rattle.pts_outcomes.specs.Calls.{Call, locals, step}

-- what is written once the positions from one on have run, from a state on
abbrev pub written_from : Store → Call → ℕ → State WrittenCells Notes → Option WrittenCells
written_from store call p s = option_map (λ t. t.memory) (run (step store call) (grid p (call.positions - p) call.first call.count) s)

-- The positions before this one have run, and what they have written stands in an overlay over the store; with those that are left, all
-- of this is written, or an evaluation throws.
pub record HasRun (store : Store) (call : Call) (p : ℕ) (layer : Layer) (all : Option WrittenCells) : Type 0 where
  pub memory : WrittenCells
  pub noted : List Notes
  pub is_noted : length noted ≡ call.positions
  pub fresh : (q : ℕ) → p ≤ q → get_or noted q (locals call).nothing ≡ (locals call).nothing
  pub are_cells : AreCellsOf store memory
  pub written : AreWritten memory layer.writes
  pub stands : layer.stands ≡ accepted store layer.writes
  pub left : written_from store call p (record { memory = memory; locals = noted }) ≡ all
