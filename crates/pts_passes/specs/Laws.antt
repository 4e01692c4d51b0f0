-- Laws of loops.
use Rattle.std.specs.Prelude.{◌≡◌, List, ◌∷◌, fold, pos}
use Rattle.pts_types.specs.declared.operation.Policy.TheVariants.{Seq}
use Rattle.pts_tree.specs.declared.loops.Loop as loops
use Rattle.pts_rules.specs.declared.meaning.Meaning.TheVariants.{Array}
use Rattle.pts_rules.specs.Known.{Scope}
use Rattle.pts_boards.specs.declared.pool.Pool.{Pool}
use Rattle.pts_code.specs.Functions.{scope_of}
use Rattle.pts_program.specs.declared.info.ArrayInfo.{ArrayInfo}
use Rattle.pts_points.specs.Standings.{AreTogether}
use Rattle.pts_steps.specs.Steps.{loop_points}
use Rattle.pts_store.specs.Stores.{Store}
use Rattle.pts_store.specs.Writes.{Writes}
use Rattle.pts_orders.specs.Evaluations.{Evaluation}
use Rattle.pts_outcomes.specs.Calls.{in_index_order}
use Rattle.pts_outcomes.specs.Laws.{IsClear}
use Rattle.pts_passes.specs.Ends.{EndsAlong, EndsAlongAll, LoopEnd, passed_along}
use Rattle.pts_passes.specs.Passes.{Allows, Pass, across, call_of, names}

-- no two evaluations of the loop conflict
abbrev pub IsFree : Pass → Store → Type 0
IsFree pass store = IsClear store (across pass) (call_of pass store)

-- index order is allowed under every policy
abbrev pub IndexOrderIsAllowed : Type 0
IndexOrderIsAllowed = (pass : Pass) (store : Store) → Allows pass store (in_index_order (call_of pass store))

-- without conflict, what is written and what each position has noted is the same along all orders that are allowed, and an
-- evaluation throws along all of them or along none
abbrev pub OrdersAgree : Type 0
OrdersAgree =
    (pass : Pass) (store : Store) → IsFree pass store → (order : List Evaluation) → Allows pass store order
    → passed_along pass store order ≡ passed_along pass store (in_index_order (call_of pass store))

-- so as the loop ends along one of them, it ends along all
abbrev pub EndsAgree : Type 0
EndsAgree =
    (pool : Pool) (pass : Pass) (store : Store) (end : LoopEnd) (writes : Writes) → IsFree pass store → (order : List Evaluation) → Allows pass store order
    → EndsAlong pool pass store order end writes → EndsAlongAll pool pass store end writes

-- a loop that runs in order has no conflict
abbrev pub InOrderIsFree : Type 0
InOrderIsFree = (pass : Pass) (store : Store) → pass.head.policy ≡ Seq → IsFree pass store

-- what stands between two points of one `off` has it too
abbrev pub OffsStandTogether : Type 0
OffsStandTogether = (names : Scope) (x : loops.Loop) → AreTogether (loop_points names x)

abbrev pub with_array_name : Scope → ArrayInfo → Scope
with_array_name scope a = (a.name, Array a.kind (pos 0)) ∷ scope

-- the names of a pass are those of its functions, and before them those of its arrays, the last one first
abbrev pub NamesAreKnown : Type 0
NamesAreKnown = (pass : Pass) → names pass ≡ fold with_array_name (scope_of pass.functions) pass.arrays
