-- The results of calls by the answers of the crates that run them.
use Rattle.std.proofs.Common.{◌≡◌, ◌⊎◌, inl, inr, ℕ, true, false, Option, Some, None, IsNone, IsSome, IsSomeAnd, IfSome, List, Result, Ok, Err, IfOk, refl, sym, ap, ◌∙◌, subst}
use Rattle.std.specs.Prelude.{option_and_then, option_map, []}
use Rattle.pts_types.specs.declared.value.NoMemory.{NoMemory}
use Rattle.pts_lowering.specs.declared.forms.CellRange.{CellRange}
use Rattle.pts_types.specs.declared.value.Value.{Value}
use Rattle.pts_types.specs.declared.value.Value.TheVariants as values
use Rattle.pts_boards.specs.declared.grouping.Grouping.{Grouping}
use Rattle.pts_boards.specs.declared.pool.Pool.{Pool}
use Rattle.pts_code.specs.declared.function.FunctionInfo.{FunctionInfo}
use Rattle.pts_cells.specs.WrittenCells.{WrittenCells}
use Rattle.pts_lowering.specs.declared.forms.ForEach.{ForEach}
use Rattle.pts_lowering.specs.declared.forms.LoweredCall.{LoweredCall}
use Rattle.pts_lowering.specs.declared.forms.LoweredCall.TheVariants as lowered
use Rattle.pts_lowering.specs.declared.forms.LoweredLoop.{LoweredLoop}
use Rattle.pts_lowering.specs.declared.forms.Reduction.{Reduction}
use Rattle.pts_lowering.specs.declared.forms.Scan.{Scan}
use Rattle.pts_lowering.specs.declared.forms.Search.{Search}
use Rattle.pts_lowering.specs.declared.forms.Transform.{Transform}
use Rattle.pts_program.specs.declared.lists.Lists.{Lists}
use Rattle.pts_store.specs.Steps.{AreOf, Step}
use Rattle.pts_store.specs.Stores.{Store, accepted, arrays_with}
use Rattle.pts_store.specs.Writes.{Writes}
use Rattle.pts_eval.specs.declared.results.CallResult.TheVariants as results
use Rattle.pts_passes.specs.Ends.{PermitsLoop}
use Rattle.pts_passes.specs.Passes.{Pass, head_in, pass_at}
use Rattle.pts_eval.specs.Calls.{CallGives, CallThrows, IsSumOf, LoopThrows, LoopWrites, Reduces, Scans, with_steps}
use Rattle.pts_eval.specs.Maps.{EndsWith, PermitsAnswer, count_if_in, find_if_in, for_each_in, transform_in}
use Rattle.pts_maps.specs.declared.answers.MapAnswer.{MapAnswer}
use Rattle.pts_maps.specs.Answers as maps
use Rattle.pts_eval.specs.Maps as ends
use Rattle.pts_eval.specs.Sums.{reduction_in, scan_in, scanned, steps_from, steps_into, IsReduce, IsTransformReduce}
use Rattle.pts_loops.specs.declared.answers.LoopAnswer.{LoopAnswer}
use Rattle.pts_loops.specs.declared.answers.LoopAnswer.TheVariants as loop_answers
use Rattle.pts_loops.specs.Answers as loops
use Rattle.pts_calls.specs.declared.answers.CallAnswer.{CallAnswer}
use Rattle.pts_calls.specs.Answers.{is_reduce, IsCallAnswer}
use Rattle.pts_sums.specs.declared.answers.Outcome.{Outcome}
use Rattle.pts_sums.specs.declared.answers.Outcome.TheVariants as outcomes
use Rattle.pts_sums.specs.declared.answers.SumAnswer.{SumAnswer}
use Rattle.pts_sums.specs.declared.answers.ScanAnswer.{ScanAnswer}
use Rattle.pts_sums.specs.Answers.{IsScanAnswer, IsSumAnswer, value_in}
use Rattle.pts_sums.specs.Places.{AreWritten}

-- writes that are those of some steps lead to the store with these
pub accepted_are_steps : (steps : List Step) (writes : Writes) (store : Store) → AreOf steps writes → accepted store writes ≡ with_steps steps store
unfolding accepted
accepted_are_steps steps writes store h = λ i. arrays_with (λ array index. h.cell array index i) store

pub sum_given : (pool : Pool) (functions : List FunctionInfo) (call : Reduction) (store : Store) (answer : SumAnswer) (value : Value) → answer.outcome ≡ outcomes.Value value
    → IsSumAnswer functions store pool call answer → Reduces pool functions call store value (accepted store answer.writes)
sum_given pool functions call store answer value is h = record {
  sum = (answer.grouping.groups, h.grouping, sym (ap value_in is) ∙ h.outcome);
  after_is = accepted_are_steps (steps_into call.into (Some value)) answer.writes store (subst (λ o. AreOf (steps_into call.into (value_in o)) answer.writes) is h.writes);
}

pub sum_thrown : (pool : Pool) (functions : List FunctionInfo) (call : Reduction) (store : Store) (answer : SumAnswer) → answer.outcome ≡ outcomes.Terminated
    → IsSumAnswer functions store pool call answer → IsSumOf pool functions call store None
sum_thrown pool functions call store answer is h = (answer.grouping.groups, h.grouping, sym (ap value_in is) ∙ h.outcome)

by_places : (pool : Pool) (functions : List FunctionInfo) (call : Scan) (store : Store) (writes : Writes) (places : Option (List Value)) → scanned functions store pool.chunk call ≡ places
    → AreWritten places call.target.array call.target.low (Some writes) → Scans pool functions call store (accepted store writes)
by_places pool functions call store writes (Some values) is h = record {
  places = values;
  scanned_are = is;
  after_is = accepted_are_steps (steps_from call.target.array call.target.low values) writes store h;
}
by_places pool functions call store writes None is h = absurd h

pub scan_given : (pool : Pool) (functions : List FunctionInfo) (call : Scan) (store : Store) (writes : Writes)
    → AreWritten (scanned functions store pool.chunk call) call.target.array call.target.low (Some writes) → Scans pool functions call store (accepted store writes)
scan_given pool functions call store writes h = by_places pool functions call store writes (scanned functions store pool.chunk call) refl h

thrown_by : (places : Option (List Value)) (array index : ℕ) → AreWritten places array index None → places ≡ None
thrown_by None array index h = refl
thrown_by (Some values) array index h = absurd h

pub scan_thrown : (pool : Pool) (functions : List FunctionInfo) (call : Scan) (store : Store)
    → AreWritten (scanned functions store pool.chunk call) call.target.array call.target.low None → scanned functions store pool.chunk call ≡ None
scan_thrown pool functions call store h = thrown_by (scanned functions store pool.chunk call) call.target.array call.target.low h

-- ---- map calls

-- a transform gives no position and no count
no_position : (cells : Option WrittenCells) (place : Option ℕ) (writes : Writes) → EndsWith cells (ends.Index place) writes → ⊥
no_position (Some cells) place writes h = h
no_position None place writes h = h

no_count : (cells : Option WrittenCells) (n : ℕ) (writes : Writes) → EndsWith cells (ends.Count n) writes → ⊥
no_count (Some cells) n writes h = h
no_count None n writes h = h

module _ (pool : Pool) (lists : Lists) (number : ℕ) (store : Store) (writes : Writes) where
  pub map_done : (call : LoweredCall) → PermitsAnswer pool.workers lists.functions store call ends.Done writes → CallGives pool lists number call store results.Done (accepted store writes)
  map_done (lowered.ForEach call) h = record { writes = writes; permitted = h; after_is = refl }
  map_done (lowered.Transform call) h = record { writes = writes; permitted = h; after_is = refl }
  map_done (lowered.FindIf call) h = absurd h.0
  map_done (lowered.CountIf call) h = absurd h.0
  map_done (lowered.Reduce call) h = absurd h
  map_done (lowered.Scan call) h = absurd h
  map_done (lowered.Loop call) h = absurd h

  pub map_found : (place : Option ℕ) (call : LoweredCall) → PermitsAnswer pool.workers lists.functions store call (ends.Index place) writes → CallGives pool lists number call store (results.Position place) (accepted store writes)
  map_found place (lowered.FindIf call) h = record { writes = writes; permitted = h; after_is = refl }
  map_found place (lowered.ForEach call) h = absurd (no_position _ place writes h.ends)
  map_found place (lowered.Transform call) h = absurd (no_position _ place writes h.ends)
  map_found place (lowered.CountIf call) h = absurd h.0
  map_found place (lowered.Reduce call) h = absurd h
  map_found place (lowered.Scan call) h = absurd h
  map_found place (lowered.Loop call) h = absurd h

  pub map_counted : (n : ℕ) (call : LoweredCall) → PermitsAnswer pool.workers lists.functions store call (ends.Count n) writes → CallGives pool lists number call store (results.Value (values.U64 n)) (accepted store writes)
  map_counted n (lowered.CountIf call) h = record { writes = writes; permitted = h; after_is = refl }
  map_counted n (lowered.ForEach call) h = absurd (no_count _ n writes h.ends)
  map_counted n (lowered.Transform call) h = absurd (no_count _ n writes h.ends)
  map_counted n (lowered.FindIf call) h = absurd h.0
  map_counted n (lowered.Reduce call) h = absurd h
  map_counted n (lowered.Scan call) h = absurd h
  map_counted n (lowered.Loop call) h = absurd h

  pub map_thrown : (call : LoweredCall) → PermitsAnswer pool.workers lists.functions store call ends.Terminated writes → CallThrows pool lists number call store
  map_thrown (lowered.ForEach call) h = (writes, h)
  map_thrown (lowered.Transform call) h = (writes, h)
  map_thrown (lowered.FindIf call) h = (writes, h)
  map_thrown (lowered.CountIf call) h = (writes, h)
  map_thrown (lowered.Reduce call) h = absurd h
  map_thrown (lowered.Scan call) h = absurd h
  map_thrown (lowered.Loop call) h = absurd h

-- ---- calls by their forms

-- the answer of the call of a number is that of its form
pub for_form : (pool : Pool) (lists : Lists) (number : ℕ) (store : Store) (own : Option LoweredCall) (form : LoweredCall) (r : Result CallAnswer NoMemory) → own ≡ Some form
    → IfOk r (IsCallAnswer pool lists number form store) → IfOk r (λ answer. IfSome own (λ f. IsCallAnswer pool lists number f store answer))
for_form pool lists number store own form (Ok answer) is h = subst (λ o. IfSome o (λ f. IsCallAnswer pool lists number f store answer)) (sym is) h
for_form pool lists number store own form (Err fault) is h = h

plain : (second : Option CellRange) (transform : Option ℕ) → is_reduce second transform ≡ true → IsNone second × IsNone transform
plain None None h = (refl, refl)
plain None (Some f) h = absurd (cc)
plain (Some range) transform h = absurd (cc)

not_plain : (second : Option CellRange) (transform : Option ℕ) → is_reduce second transform ≡ false → IsSome second ⊎ IsSome transform
not_plain None None h = absurd (cc)
not_plain None (Some f) h = inr refl
not_plain (Some range) transform h = inl refl

pub reduce_form : (own : Option LoweredCall) (call : Reduction) → own ≡ Some (lowered.Reduce call) → is_reduce call.second call.transform ≡ true → IsSomeAnd (option_and_then reduction_in own) IsReduce
reduce_form own call is h = subst (λ o. IsSomeAnd (option_and_then reduction_in o) IsReduce) (sym is) (plain call.second call.transform h)

pub transform_form : (own : Option LoweredCall) (call : Reduction) → own ≡ Some (lowered.Reduce call) → is_reduce call.second call.transform ≡ false → IsSomeAnd (option_and_then reduction_in own) IsTransformReduce
transform_form own call is h = subst (λ o. IsSomeAnd (option_and_then reduction_in o) IsTransformReduce) (sym is) (not_plain call.second call.transform h)

pub scan_own : (pool : Pool) (functions : List FunctionInfo) (store : Store) (own : Option LoweredCall) (call : Scan) (answer : ScanAnswer) → own ≡ Some (lowered.Scan call)
    → IfSome (option_and_then scan_in own) (λ s. IsScanAnswer functions store pool s answer) → IsScanAnswer functions store pool call answer
scan_own pool functions store own call answer is h = subst (λ o. IfSome (option_and_then scan_in o) (λ s. IsScanAnswer functions store pool s answer)) is h

-- ---- loops

all_some : {A : Type 0} {P Q : A → Type 0} (o : Option A) → ((x : A) → P x → Q x) → IsSomeAnd o P → IsSomeAnd o Q
all_some None f h = absurd h
all_some (Some x) f h = f x h

module _ (pool : Pool) (lists : Lists) (number : ℕ) (store : Store) (answer : LoopAnswer) (permitted : IsSomeAnd (pass_at lists number) (λ pass. PermitsLoop pool pass store (loops.end_of answer) (loops.writes_of answer))) where
  -- a loop that has written
  pub loop_given : (writes : Writes) (values : List Value) (grouping : Grouping) → answer ≡ loop_answers.Written writes values grouping
      → IsSomeAnd (pass_at lists number) (λ pass. LoopWrites pool pass store (accepted store writes))
  loop_given writes values grouping is = all_some (pass_at lists number) (λ (pass : Pass) h. (
    values,
    grouping.groups,
    record { writes = writes; permitted = subst (λ a. PermitsLoop pool pass store (loops.end_of a) (loops.writes_of a)) is h; after_is = refl },
  )) permitted

  -- one that has terminated
  pub loop_thrown : (grouping : Option Grouping) → answer ≡ loop_answers.Terminated grouping → IsSomeAnd (pass_at lists number) (λ pass. LoopThrows pool pass store)
  loop_thrown grouping is = all_some (pass_at lists number) (λ (pass : Pass) h. (
    option_map (λ g. g.groups) grouping,
    [],
    subst (λ a. PermitsLoop pool pass store (loops.end_of a) (loops.writes_of a)) is h,
  )) permitted

-- a form that is a loop has a head
pub loop_form : (own : Option LoweredCall) (head : LoweredLoop) → own ≡ Some (lowered.Loop head) → IsSome (option_and_then head_in own)
loop_form own head is = subst (λ o. IsSome (option_and_then head_in o)) (sym is) refl

-- ---- answers by the forms of their calls

-- that of a reduction
pub sum_own : (pool : Pool) (functions : List FunctionInfo) (store : Store) (own : Option LoweredCall) (call : Reduction) (answer given : SumAnswer) → own ≡ Some (lowered.Reduce call) → answer ≡ given
    → IfSome (option_and_then reduction_in own) (λ r. IsSumAnswer functions store pool r given) → IsSumAnswer functions store pool call answer
sum_own pool functions store own call answer given is same h =
    subst (IsSumAnswer functions store pool call) (sym same) (subst (λ o. IfSome (option_and_then reduction_in o) (λ r. IsSumAnswer functions store pool r given)) is h)

-- those of map calls
module _ (workers : ℕ) (functions : List FunctionInfo) (store : Store) (own : Option LoweredCall) (form : LoweredCall) (there : own ≡ Some form) (answer given : MapAnswer) (same : answer ≡ given) where
  abbrev Permits : MapAnswer → LoweredCall → Type 0
  Permits a f = PermitsAnswer workers functions store f (maps.end_of a.answer) a.writes

  pub for_each_own : (call : ForEach) → form ≡ lowered.ForEach call → IfSome (option_and_then for_each_in own) (λ x. Permits given (lowered.ForEach x)) → Permits answer form
  for_each_own call is h =
      subst (λ a. Permits a form) (sym same) (subst (Permits given) (sym is) (subst (λ o. IfSome (option_and_then for_each_in o) (λ x. Permits given (lowered.ForEach x))) (there ∙ ap Some is) h))

  pub transform_own : (call : Transform) → form ≡ lowered.Transform call → IfSome (option_and_then transform_in own) (λ x. Permits given (lowered.Transform x)) → Permits answer form
  transform_own call is h =
      subst (λ a. Permits a form) (sym same) (subst (Permits given) (sym is) (subst (λ o. IfSome (option_and_then transform_in o) (λ x. Permits given (lowered.Transform x))) (there ∙ ap Some is) h))

  pub find_if_own : (call : Search) → form ≡ lowered.FindIf call → IfSome (option_and_then find_if_in own) (λ x. Permits given (lowered.FindIf x)) → Permits answer form
  find_if_own call is h =
      subst (λ a. Permits a form) (sym same) (subst (Permits given) (sym is) (subst (λ o. IfSome (option_and_then find_if_in o) (λ x. Permits given (lowered.FindIf x))) (there ∙ ap Some is) h))

  pub count_if_own : (call : Search) → form ≡ lowered.CountIf call → IfSome (option_and_then count_if_in own) (λ x. Permits given (lowered.CountIf x)) → Permits answer form
  count_if_own call is h =
      subst (λ a. Permits a form) (sym same) (subst (Permits given) (sym is) (subst (λ o. IfSome (option_and_then count_if_in o) (λ x. Permits given (lowered.CountIf x))) (there ∙ ap Some is) h))
