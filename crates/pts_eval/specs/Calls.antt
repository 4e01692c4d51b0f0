-- Calls as a run performs them: what one gives, and the store that it leaves.
use Rattle.std.specs.Prelude.{◌≡◌, ℕ, IsSomeAnd, Option, Some, None, List, length}
use Rattle.pts_types.specs.declared.value.Value.{Value}
use Rattle.pts_types.specs.declared.value.Value.TheVariants as values
use Rattle.pts_boards.specs.declared.pool.Pool.{Pool}
use Rattle.pts_code.specs.declared.function.FunctionInfo.{FunctionInfo}
use Rattle.pts_groupings.specs.Chunks.{chunk_count, sharing, IsGrouping}
use Rattle.pts_lowering.specs.declared.forms.LoweredCall.{LoweredCall}
use Rattle.pts_lowering.specs.declared.forms.LoweredCall.TheVariants as lowered
use Rattle.pts_lowering.specs.declared.forms.Reduction.{Reduction}
use Rattle.pts_lowering.specs.declared.forms.Scan.{Scan}
use Rattle.pts_program.specs.declared.lists.Lists.{Lists}
use Rattle.pts_store.specs.Steps.{Step, last_at}
use Rattle.pts_store.specs.Stores.{Store, accepted, arrays_with}
use Rattle.pts_store.specs.Writes.{Writes}
use Rattle.pts_passes.specs.Ends as loop_ends
use Rattle.pts_passes.specs.Ends.{LoopEnd, PermitsLoop}
use Rattle.pts_passes.specs.Passes.{Pass, pass_at}
use Rattle.pts_eval.specs.declared.results.CallResult.{CallResult}
use Rattle.pts_eval.specs.declared.results.CallResult.TheVariants as results
use Rattle.pts_eval.specs.Maps.{MapEnd, PermitsAnswer}
use Rattle.pts_eval.specs.Maps as ends
use Rattle.pts_eval.specs.Sums.{items_in, reduced, scanned, steps_from, steps_into}

-- the store with the values of these steps in their cells, in each that of the last one
abbrev pub with_steps : List Step → Store → Store
with_steps steps store = arrays_with (last_at steps) store

-- ---- sums

-- the chunks of a reduction over groups, as the workers of the pool may have drawn them
abbrev pub IsGroupingOf : Pool → List FunctionInfo → Reduction → Store → List (List ℕ) → Type 0
IsGroupingOf pool functions call store groups = IsGrouping (sharing call.policy pool.workers) (chunk_count (length (items_in functions store call)) pool.chunk) groups

-- its sum over one of these groupings, or, where that is None, one over which it throws
abbrev pub IsSumOf : Pool → List FunctionInfo → Reduction → Store → Option Value → Type 0
IsSumOf pool functions call store sum =
    (groups : List (List ℕ)) × IsGroupingOf pool functions call store groups × (sum ≡ reduced functions store pool.chunk groups call)

-- a reduction gives such a sum, and puts it into the cell that it names
pub record Reduces (pool : Pool) (functions : List FunctionInfo) (call : Reduction) (before : Store) (value : Value) (after : Store) : Type 0 where
  pub sum : IsSumOf pool functions call before (Some value)
  pub after_is : after ≡ with_steps (steps_into call.into (Some value)) before

-- a scan writes its places to the cells of its target
pub record Scans (pool : Pool) (functions : List FunctionInfo) (call : Scan) (before after : Store) : Type 0 where
  pub places : List Value
  pub scanned_are : scanned functions before pool.chunk call ≡ Some places
  pub after_is : after ≡ with_steps (steps_from call.target.array call.target.low places) before

-- ---- map calls

-- a map call ends so, and its writes lead from one store to the other
pub record EndsSo (pool : Pool) (functions : List FunctionInfo) (call : LoweredCall) (before : Store) (end : MapEnd) (after : Store) : Type 0 where
  pub writes : Writes
  pub permitted : PermitsAnswer pool.workers functions before call end writes
  pub after_is : after ≡ accepted before writes

-- ---- loops

-- a loop ends so, and its writes lead from one store to the other
pub record LoopEndsSo (pool : Pool) (pass : Pass) (before : Store) (end : LoopEnd) (after : Store) : Type 0 where
  pub writes : Writes
  pub permitted : PermitsLoop pool pass before end writes
  pub after_is : after ≡ accepted before writes

-- a loop has written, with some values of its live-outs over some grouping
abbrev pub LoopWrites : Pool → Pass → Store → Store → Type 0
LoopWrites pool pass before after = (values : List Value) × (groups : List (List ℕ)) × LoopEndsSo pool pass before (loop_ends.Written values groups) after

-- a loop has terminated, before its groups were combined or while they were
abbrev pub LoopThrows : Pool → Pass → Store → Type 0
LoopThrows pool pass before = (groups : Option (List (List ℕ))) × (writes : Writes) × PermitsLoop pool pass before (loop_ends.Terminated groups) writes

-- ---- calls

-- run by this pool in the store `before`, the call of this number, which has this form, may give this result and leave the store
-- `after`
abbrev pub CallGives : Pool → Lists → ℕ → LoweredCall → Store → CallResult → Store → Type 0
CallGives pool lists number (lowered.Reduce call) before (results.Value value) after = Reduces pool lists.functions call before value after
CallGives pool lists number (lowered.Scan call) before results.Done after = Scans pool lists.functions call before after
CallGives pool lists number (lowered.ForEach call) before results.Done after = EndsSo pool lists.functions (lowered.ForEach call) before ends.Done after
CallGives pool lists number (lowered.Transform call) before results.Done after = EndsSo pool lists.functions (lowered.Transform call) before ends.Done after
CallGives pool lists number (lowered.FindIf call) before (results.Position place) after = EndsSo pool lists.functions (lowered.FindIf call) before (ends.Index place) after
CallGives pool lists number (lowered.CountIf call) before (results.Value (values.U64 count)) after = EndsSo pool lists.functions (lowered.CountIf call) before (ends.Count count) after
CallGives pool lists number (lowered.Loop head) before results.Done after = IsSomeAnd (pass_at lists number) (λ pass. LoopWrites pool pass before after)
CallGives pool lists number call before result after = ⊥

-- or it may throw, which terminates the run
abbrev pub CallThrows : Pool → Lists → ℕ → LoweredCall → Store → Type 0
CallThrows pool lists number (lowered.Reduce call) before = IsSumOf pool lists.functions call before None
CallThrows pool lists number (lowered.Scan call) before = scanned lists.functions before pool.chunk call ≡ None
CallThrows pool lists number (lowered.Loop head) before = IsSomeAnd (pass_at lists number) (λ pass. LoopThrows pool pass before)
CallThrows pool lists number call before = (writes : Writes) × PermitsAnswer pool.workers lists.functions before call ends.Terminated writes
