-- What a call answers.
use Rattle.std.specs.Prelude.{ℕ, Bool, true, false, Option, Some, None}
use Rattle.pts_boards.specs.declared.pool.Pool.{Pool}
use Rattle.pts_lowering.specs.declared.forms.CellRange.{CellRange}
use Rattle.pts_lowering.specs.declared.forms.LoweredCall.{LoweredCall}
use Rattle.pts_lowering.specs.declared.forms.LoweredCall.TheVariants as lowered
use Rattle.pts_program.specs.declared.lists.Lists.{Lists}
use Rattle.pts_store.specs.Stores.{Store, accepted}
use Rattle.pts_eval.specs.Calls.{CallGives, CallThrows}
use Rattle.pts_calls.specs.declared.answers.CallAnswer.{CallAnswer}
use Rattle.pts_calls.specs.declared.answers.CallAnswer.TheVariants as answers

-- The answer of a call that a pool runs, by its number and its form, where the cells hold what this store holds: the result that
-- it gives and the writes that lead to the store that it leaves, or that it throws.
abbrev pub IsCallAnswer : Pool → Lists → ℕ → LoweredCall → Store → CallAnswer → Type 0
IsCallAnswer pool lists number call store (answers.Gave result writes) = CallGives pool lists number call store result (accepted store writes)
IsCallAnswer pool lists number call store answers.Terminated = CallThrows pool lists number call store

-- one of the four map calls
abbrev pub is_map : LoweredCall → Bool
is_map (lowered.Reduce call) = false
is_map (lowered.Scan call) = false
is_map (lowered.Loop call) = false
is_map call = true

-- a reduction of the elements of one range as they are
abbrev pub is_reduce : Option CellRange → Option ℕ → Bool
is_reduce None None = true
is_reduce second transform = false
