-- How a loop may end ([parallel.alg.for.loop]).
use Rattle.std.specs.Prelude.{◌≡◌, ℕ, if◌then◌else◌, Option, Some, None, List, []}
use Rattle.pts_types.specs.declared.value.Value.{Value}
use Rattle.pts_boards.specs.declared.pool.Pool.{Pool}
use Rattle.pts_store.specs.Steps.{AreOf}
use Rattle.pts_store.specs.Stores.{Store}
use Rattle.pts_store.specs.Writes.{Writes}
use Rattle.pts_orders.specs.Effects.{State}
use Rattle.pts_orders.specs.Evaluations.{Evaluation}
use Rattle.pts_cells.specs.WrittenCells.{AreWritten, WrittenCells}
use Rattle.pts_groupings.specs.Chunks.{chunk_count, sharing, IsGrouping}
use Rattle.pts_outcomes.specs.Acts.{Notes}
use Rattle.pts_outcomes.specs.Calls.{outcome_along}
use Rattle.pts_passes.specs.Inductions.{all_stay}
use Rattle.pts_passes.specs.LiveOuts.{LiveOut, assigned, live_outs, values_of}
use Rattle.pts_passes.specs.Passes.{Allows, Pass, call_of}

-- what a loop answers: that it has written, with the values of its live-outs and the groups in which its chunks ran; or that it
-- has terminated, before its groups were combined or while they were
pub data LoopEnd : Type 0 where
  Written : List Value → List (List ℕ) → LoopEnd
  Terminated : Option (List (List ℕ)) → LoopEnd

-- what is written and noted along an order; None where an evaluation throws or an induction leaves its kind
abbrev pub passed_along : Pass → Store → List Evaluation → Option (State WrittenCells Notes)
passed_along pass store order = if all_stay store pass.head then outcome_along store (call_of pass store) order else None

-- the workers of the pool may have taken the chunks of the loop in these groups
abbrev pub IsGroupingOf : Pool → Pass → List (List ℕ) → Type 0
IsGroupingOf pool pass groups = IsGrouping (sharing pass.head.policy pool.workers) (chunk_count pass.head.positions pool.chunk) groups

-- The live-outs over these groups, behind what was written: with their values all that the loop writes, and nothing where a
-- combination throws.
pub record WritesAll (outs : List LiveOut) (cells : WrittenCells) (values : List Value) (writes : Writes) : Type 0 where
  pub given : values_of outs ≡ Some values
  pub written : AreWritten (assigned outs cells) writes

pub record Throws (outs : List LiveOut) (writes : Writes) : Type 0 where
  pub thrown : values_of outs ≡ None
  pub unwritten : AreOf [] writes

abbrev pub EndsWith : Pool → Pass → Store → Option (State WrittenCells Notes) → LoopEnd → Writes → Type 0
EndsWith pool pass store None (Terminated None) writes = AreOf [] writes
EndsWith pool pass store (Some s) (Written values groups) writes =
    IsGroupingOf pool pass groups × WritesAll (live_outs pass store pool.chunk groups s.locals) s.memory values writes
EndsWith pool pass store (Some s) (Terminated (Some groups)) writes =
    IsGroupingOf pool pass groups × Throws (live_outs pass store pool.chunk groups s.locals) writes
EndsWith pool pass store outcome end writes = ⊥

-- along this order of its evaluations the loop ends so
abbrev pub EndsAlong : Pool → Pass → Store → List Evaluation → LoopEnd → Writes → Type 0
EndsAlong pool pass store order end writes = EndsWith pool pass store (passed_along pass store order) end writes

-- it ends so along an order that its policy allows
pub record PermitsLoop (pool : Pool) (pass : Pass) (store : Store) (end : LoopEnd) (writes : Writes) : Type 0 where
  pub order : List Evaluation
  pub allowed : Allows pass store order
  pub ends : EndsAlong pool pass store order end writes

-- along all orders that its policy allows the loop ends so
abbrev pub EndsAlongAll : Pool → Pass → Store → LoopEnd → Writes → Type 0
EndsAlongAll pool pass store end writes = (order : List Evaluation) → Allows pass store order → EndsAlong pool pass store order end writes
