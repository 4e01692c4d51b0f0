-- A transform as it runs over an overlay.
use Rattle.std.proofs.Common.{refl, ◌≡◌, ℕ, ◌+◌, ◌<◌, ◌≤◌, Option, Some, None, List, [], ◌∷◌, length, ap, sym, ◌∙◌, subst, arith, zero, suc, slice_get}
use Rattle.std.specs.Prelude.{IfOk, IfSome, Result, Ok, Err}
use Rattle.std.specs.Option.{option_and_then, option_map}
use Rattle.pts_types.specs.declared.value.NoMemory.{NoMemory}
use Rattle.pts_types.specs.declared.value.Value.{Value}
use Rattle.pts_code.specs.declared.function.FunctionInfo.{FunctionInfo}
use Rattle.pts_lowering.specs.declared.forms.CellRange.{CellRange}
use Rattle.pts_lowering.specs.declared.forms.ForEach.{ForEach}
use Rattle.pts_lowering.specs.declared.forms.LoweredCall.TheVariants as lowered
use Rattle.pts_lowering.specs.declared.forms.Transform.{Transform}
use Rattle.pts_lowering.specs.declared.forms.LoweredCall.{LoweredCall}
use Rattle.pts_program.specs.declared.info.ArrayInfo.{ArrayInfo}
use Rattle.pts_program.specs.declared.lists.Lists.{Lists}
use Rattle.pts_program.specs.Lists.{IsProgram}
use Rattle.pts_program.specs.Ranges.{length_at}
use Rattle.pts_conflict.specs.Conflicts as conflicts
use Rattle.pts_store.specs.Laws.{SameShape}
use Rattle.pts_clear.specs.Showing.{HasArrays}
use Rattle.pts_clear.proofs.ClearCalls.{calls_are_clear}
use Rattle.pts_clear.proofs.MapsShown.{for_each_is_shown, transform_is_shown}
use Rattle.pts_store.specs.Overlays.{Layer}
use Rattle.pts_store.specs.Steps.{AreOf}
use Rattle.pts_store.specs.Stores.{Store, cells_in, put_cell}
use Rattle.pts_store.specs.Writes.{Writes, PutsCell}
use Rattle.pts_store.proofs.Changes.{length-cells_in-accepted}
use Rattle.pts_store.proofs.Together.{no_steps}
use Rattle.pts_cells.specs.WrittenCells.{AreWritten, WrittenCells}
use Rattle.pts_outcomes.specs.Calls.{in_index_order, keeps_order}
use Rattle.pts_outcomes.specs.MapCalls.{as_transform, element, shared_positions, size_in, transform_call, turned}
use Rattle.pts_outcomes.proofs.MapRuns.{turn_goes, turn_throws}
use Rattle.pts_outcomes.specs.Laws.{IsClear}
use Rattle.pts_outcomes.proofs.Orders.{index_order_is_allowed, orders_agree}
use Rattle.pts_outcomes.proofs.Turns.{begun, ended}
use Rattle.pts_eval.specs.Maps.{for_each_at, for_each_in, transform_at, transform_in, EndsAlongAll, EndsWith, MapEnd, PermitsAnswer, PermitsTransform, Terminated}
use Rattle.pts_eval.specs.Cells.{range_in, start_store}
use Rattle.pts_eval.proofs.Starts.{start_length}
use Rattle.pts_eval.specs.Sums.{given_by}
use Rattle.pts_elements.proofs.RangeCells.{length-range}
use Rattle.pts_maps.specs.declared.answers.MapAnswer.{MapAnswer}
use Rattle.pts_maps.specs.Answers.{end_of}
use Rattle.pts_maps.specs.Transforms.{AreAll, IsAt, in_turn}

-- ---- sizes

first_size : (store : Store) (second : Option CellRange) (call : Transform) (p : ℕ) → p < shared_positions store second call → p < size_in store call.first
first_size store None call p h = omega (arith, h)
first_size store (Some second) call p h = omega (arith, h)

target_size : (store : Store) (second : Option CellRange) (call : Transform) (p : ℕ) → p < shared_positions store second call → p < size_in store call.target
target_size store None call p h = omega (arith, h)
target_size store (Some second) call p h = omega (arith, h)

second_size : (store : Store) (other : Option CellRange) (second : CellRange) (call : Transform) (p : ℕ) → other ≡ Some second → p < shared_positions store other call → p < size_in store second
second_size store None second call p e h = absurd cc
second_size store (Some range) second call p e h =
    let same : range ≡ second = cc in
    let within : p < size_in store range = omega (arith, h) in
    subst (λ r. p < size_in store r) same within

-- how many positions a call counts
pub size_counted : (store : Store) (range : CellRange) (count : ℕ) → count ≡ length (range_in store range) → count ≡ size_in store range
size_counted store range count e = e ∙ length-range store range

module _ (functions : List FunctionInfo) (store : Store) (call : Transform) (p : ℕ) (layer : Layer) (run : IsAt functions store call p layer) (h : p < shared_positions store call.second call) where
  same_size : (range : CellRange) → p < size_in store range → p < size_in layer.stands range
  same_size range within =
      let size : length (cells_in layer.stands range.array) ≡ length (cells_in store range.array) =
      ap (λ s. length (cells_in s range.array)) run.stands ∙ length-cells_in-accepted store layer.writes range.array in
      omega (arith, within, size)

  pub first_there : p < size_in layer.stands call.first
  first_there = same_size call.first (first_size store call.second call p h)

  pub second_there : (second : CellRange) → call.second ≡ Some second → p < size_in layer.stands second
  second_there second e = same_size second (second_size store call.second second call p e h)

  -- the cell that is written
  pub target_there : call.target.low + p < call.target.high
  target_there = let within = target_size store call.second call p h in omega (arith, within)

  -- ---- one position more

  pub goes : (next : Layer) (v : Value) (given : Option Value) → given ≡ Some v → given ≡ turned functions layer.stands call.second call p
      → PutsCell layer.writes next.writes call.target.array (call.target.low + p) v → next.stands ≡ put_cell layer.stands call.target.array (call.target.low + p) v
      → IsAt functions store call (p + 1) next
  goes next v given is turns puts stands =
      turn_goes functions store call p layer (in_turn functions store call) call.second run h next v (sym is ∙ turns) puts stands

  pub throws : (given : Option Value) → given ≡ None → given ≡ turned functions layer.stands call.second call p → in_turn functions store call ≡ None
  throws given is turns = turn_throws functions store call p layer (in_turn functions store call) call.second run h (sym is ∙ turns)

-- ---- what a position gives

pub turned_one : (functions : List FunctionInfo) (stands : Store) (call : Transform) (p : ℕ) (x : Value) (given : Option Value) → call.second ≡ None
    → Some x ≡ element stands call.first p → given ≡ given_by functions call.function (x ∷ []) → given ≡ turned functions stands call.second call p
turned_one functions stands call p x given none is gives =
    gives ∙ ap (option_and_then (λ v. given_by functions call.function (v ∷ []))) is ∙ ap (λ o. turned functions stands o call p) (sym none)

pub turned_two : (functions : List FunctionInfo) (stands : Store) (call : Transform) (p : ℕ) (second : CellRange) (x y : Value) (given : Option Value) → call.second ≡ Some second
    → Some x ≡ element stands call.first p → Some y ≡ element stands second p → given ≡ given_by functions call.function (x ∷ y ∷ [])
    → given ≡ turned functions stands call.second call p
turned_two functions stands call p second x y given some is is' gives =
    gives
    ∙ ap (option_and_then (λ w. given_by functions call.function (x ∷ w ∷ []))) is'
    ∙ ap (option_and_then (λ v. option_and_then (λ w. given_by functions call.function (v ∷ w ∷ [])) (element stands second p))) is
    ∙ ap (λ o. turned functions stands o call p) (sym some)

-- ---- the whole

pub starts : (functions : List FunctionInfo) (store : Store) (call : Transform) (layer : Layer) → layer.writes ≡ [] → layer.stands ≡ store → IsAt functions store call 0 layer
starts functions store call layer none is = begun store (transform_call functions store call) layer none is

pub ends : (functions : List FunctionInfo) (store : Store) (call : Transform) (p : ℕ) (layer : Layer) (writes : Writes) → IsAt functions store call p layer
    → shared_positions store call.second call ≤ p → writes ≡ layer.writes → AreAll (in_turn functions store call) (Some writes)
ends functions store call p layer writes run last same =
    let end = ended store (transform_call functions store call) p layer (in_turn functions store call) run last in
    subst (λ o. AreAll o (Some writes)) (sym end.0) (subst (AreWritten run.memory) (sym same) end.1)

pub ends_thrown : (functions : List FunctionInfo) (store : Store) (call : Transform) → in_turn functions store call ≡ None → AreAll (in_turn functions store call) None
ends_thrown functions store call none = subst (λ o. AreAll o None) (sym none) tt

-- ---- answers

-- a transform that has thrown
pub ends_none : (functions : List FunctionInfo) (store : Store) (call : Transform) (written : Option Writes) (none : Writes) → written ≡ None
    → AreAll (in_turn functions store call) written → none ≡ [] → EndsWith (in_turn functions store call) Terminated none
ends_none functions store call written none e all empty =
    by (in_turn functions store call) (subst (AreAll (in_turn functions store call)) e all)
  where
    by : (o : Option WrittenCells) → AreAll o None → EndsWith o Terminated none
    by None h = subst (AreOf []) (sym empty) no_steps
    by (Some cells) h = absurd h

-- index order is one that is allowed
in_order : (functions : List FunctionInfo) (store : Store) (call : Transform) (end : MapEnd) (writes : Writes) → EndsWith (in_turn functions store call) end writes
    → PermitsTransform functions store call end writes
in_order functions store call end writes h = record {
  order = in_index_order (transform_call functions store call);
  allowed = index_order_is_allowed (keeps_order call.policy) (transform_call functions store call);
  ends = h;
}

a_transform : (o : Option LoweredCall) (x : Transform) → option_and_then transform_in o ≡ Some x → o ≡ Some (lowered.Transform x)
a_transform None x e = absurd cc
a_transform (Some (lowered.Transform y)) x e = ap (λ (z : Transform). Some (lowered.Transform z)) (let same : y ≡ x = cc in same)
a_transform (Some (lowered.ForEach y)) x e = absurd cc
a_transform (Some (lowered.FindIf y)) x e = absurd cc
a_transform (Some (lowered.CountIf y)) x e = absurd cc
a_transform (Some (lowered.Reduce y)) x e = absurd cc
a_transform (Some (lowered.Scan y)) x e = absurd cc
a_transform (Some (lowered.Loop y)) x e = absurd cc

a_for_each : (o : Option LoweredCall) (x : ForEach) → option_and_then for_each_in o ≡ Some x → o ≡ Some (lowered.ForEach x)
a_for_each None x e = absurd cc
a_for_each (Some (lowered.ForEach y)) x e = ap (λ (z : ForEach). Some (lowered.ForEach z)) (let same : y ≡ x = cc in same)
a_for_each (Some (lowered.Transform y)) x e = absurd cc
a_for_each (Some (lowered.FindIf y)) x e = absurd cc
a_for_each (Some (lowered.CountIf y)) x e = absurd cc
a_for_each (Some (lowered.Reduce y)) x e = absurd cc
a_for_each (Some (lowered.Scan y)) x e = absurd cc
a_for_each (Some (lowered.Loop y)) x e = absurd cc

-- without conflict, all orders end as index order
in_all_orders : (functions : List FunctionInfo) (store : Store) (call : Transform) (end : MapEnd) (writes : Writes)
    → IsClear store (keeps_order call.policy) (transform_call functions store call) → EndsWith (in_turn functions store call) end writes
    → EndsAlongAll functions store call end writes
in_all_orders functions store call end writes clear h order allowed =
    subst (λ o. EndsWith o end writes)
    (ap (option_map (λ s. s.memory)) (sym (orders_agree store (keeps_order call.policy) (transform_call functions store call) clear order allowed))) h

module _ (workers : ℕ) (lists : Lists) (number : ℕ) (store : Store) where
  pub permitted_transform : (call : Transform) (result : Result MapAnswer NoMemory) (found : Option Transform) → found ≡ transform_at lists number → found ≡ Some call
      → IfOk result (λ answer. EndsWith (in_turn lists.functions store call) (end_of answer.answer) answer.writes)
      → IfOk result (λ answer. IfSome (transform_at lists number) (λ x. PermitsAnswer workers lists.functions store (lowered.Transform x) (end_of answer.answer) answer.writes))
  permitted_transform call (Err fault) found is e h = h
  permitted_transform call (Ok answer) found is e h =
      subst (λ o. IfSome o (λ x. PermitsAnswer workers lists.functions store (lowered.Transform x) (end_of answer.answer) answer.writes)) (sym e ∙ is)
      (in_order lists.functions store call (end_of answer.answer) answer.writes h)

  pub permitted_for_each : (call : ForEach) (result : Result MapAnswer NoMemory) (found : Option ForEach) → found ≡ for_each_at lists number → found ≡ Some call
      → IfOk result (λ answer. EndsWith (in_turn lists.functions store (as_transform call)) (end_of answer.answer) answer.writes)
      → IfOk result (λ answer. IfSome (for_each_at lists number) (λ x. PermitsAnswer workers lists.functions store (lowered.ForEach x) (end_of answer.answer) answer.writes))
  permitted_for_each call (Err fault) found is e h = h
  permitted_for_each call (Ok answer) found is e h =
      subst (λ o. IfSome o (λ x. PermitsAnswer workers lists.functions store (lowered.ForEach x) (end_of answer.answer) answer.writes)) (sym e ∙ is)
      (in_order lists.functions store (as_transform call) (end_of answer.answer) answer.writes h)

  -- ---- orders

  module _ (program : IsProgram lists) (shape : SameShape (start_store lists) store) (clear : conflicts.IsClear lists) where
    arrays : HasArrays lists store
    arrays = record { cells = λ a. shape.cells a ∙ start_length lists.arrays a }

    pub ordered_transform : (call : Transform) (result : Result MapAnswer NoMemory) (found : Option Transform) → found ≡ transform_at lists number → found ≡ Some call
        → IfOk result (λ answer. EndsWith (in_turn lists.functions store call) (end_of answer.answer) answer.writes)
        → IfOk result (λ answer. IfSome (transform_at lists number) (λ x. EndsAlongAll lists.functions store x (end_of answer.answer) answer.writes))
    ordered_transform call (Err fault) found is e h = h
    ordered_transform call (Ok answer) found is e h =
        subst (λ o. IfSome o (λ x. EndsAlongAll lists.functions store x (end_of answer.answer) answer.writes)) (sym e ∙ is)
        (in_all_orders lists.functions store call (end_of answer.answer) answer.writes
        (calls_are_clear lists store number call.policy (transform_call lists.functions store call) clear arrays
        (transform_is_shown lists store number call program (a_transform (slice_get lists.lowered_calls number) call (sym is ∙ e)))) h)

    pub ordered_for_each : (call : ForEach) (result : Result MapAnswer NoMemory) (found : Option ForEach) → found ≡ for_each_at lists number → found ≡ Some call
        → IfOk result (λ answer. EndsWith (in_turn lists.functions store (as_transform call)) (end_of answer.answer) answer.writes)
        → IfOk result (λ answer. IfSome (for_each_at lists number) (λ x.
        EndsAlongAll lists.functions store (as_transform x) (end_of answer.answer) answer.writes))
    ordered_for_each call (Err fault) found is e h = h
    ordered_for_each call (Ok answer) found is e h =
        subst (λ o. IfSome o (λ x. EndsAlongAll lists.functions store (as_transform x) (end_of answer.answer) answer.writes)) (sym e ∙ is)
        (in_all_orders lists.functions store (as_transform call) (end_of answer.answer) answer.writes
        (calls_are_clear lists store number call.policy (transform_call lists.functions store (as_transform call)) clear arrays
        (for_each_is_shown lists store number call program (a_for_each (slice_get lists.lowered_calls number) call (sym is ∙ e)))) h)
