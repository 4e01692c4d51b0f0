-- What the laws of this crate say: sums and scans answer what the standard permits.
use Rattle.std.specs.Prelude.{◌≡◌, ℕ, ◌<◌, Some, None, List, length, slice_get}
use Rattle.pts_types.specs.declared.value.Value.{Value}
use Rattle.pts_boards.specs.declared.pool.Pool.{Pool}
use Rattle.pts_code.specs.declared.function.FunctionInfo.{FunctionInfo}
use Rattle.pts_lowering.specs.declared.forms.Reduction.{Reduction}
use Rattle.pts_lowering.specs.declared.forms.Scan.{Scan}
use Rattle.pts_store.specs.Stores.{Store}
use Rattle.pts_groupings.specs.Scans.{belonging, HasStart, HasThrow, IsPlaceSum}
use Rattle.pts_groupings.specs.Sums.{all_given, IsSum}
use Rattle.pts_eval.specs.Sums.{combining, items_in, order_of, scan_items, scanned}
use Rattle.pts_sums.specs.Answers.{value_in, IsSumAnswer}
use Rattle.pts_sums.specs.declared.answers.SumAnswer.{SumAnswer}

-- the outcome of a reduction lies in the generalized sum of its first value and its items, and it is a throw where an item is one
abbrev pub SumsAreGeneralized : Type 0
SumsAreGeneralized =
    (functions : List FunctionInfo) (store : Store) (pool : Pool) (call : Reduction) (answer : SumAnswer) → 0 < pool.chunk → IsSumAnswer functions store pool call answer
    → IsSum (combining functions call.operation) call.initial (items_in functions store call) (value_in answer.outcome)

-- a scan that does not throw has as many places as items, each of them the sum that the standard names for it
abbrev pub WrittenPlacesAreSums : Type 0
WrittenPlacesAreSums =
    (functions : List FunctionInfo) (store : Store) (size : ℕ) (call : Scan) (places : List Value) → 0 < size → HasStart (order_of call.order) call.initial
    → scanned functions store size call ≡ Some places
    → (length places ≡ length (scan_items functions store call))
    × ((p : ℕ) → p < length (scan_items functions store call)
    → IsPlaceSum (order_of call.order) (combining functions call.operation) call.initial (scan_items functions store call) p (slice_get places p))

-- where a scan throws, a throw lies in the sum of one of its places
abbrev pub ThrowsAreSums : Type 0
ThrowsAreSums =
    (functions : List FunctionInfo) (store : Store) (size : ℕ) (call : Scan) → 0 < size → HasStart (order_of call.order) call.initial → scanned functions store size call ≡ None
    → HasThrow (order_of call.order) (combining functions call.operation) call.initial (scan_items functions store call)

-- where an item that belongs to a place is a throw, so is the scan
abbrev pub ItemsThrow : Type 0
ItemsThrow =
    (functions : List FunctionInfo) (store : Store) (size : ℕ) (call : Scan) (p : ℕ) → 0 < size → HasStart (order_of call.order) call.initial
    → p < length (scan_items functions store call) → all_given (belonging (order_of call.order) (scan_items functions store call) p) ≡ None
    → scanned functions store size call ≡ None
