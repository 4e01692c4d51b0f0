-- Sums and scans as a program calls them: their operations, their items, what they give and which cells they write.
use Rattle.std.specs.Prelude.{ℕ, zero, suc, ◌+◌, ◌-◌, ◌⊎◌, min, IsNone, IsSome, option_and_then, Option, Some, None, List, [], ◌∷◌, ◌++◌, length, map, take, slice_get}
use Rattle.std.specs.List.{range_with_len}
use Rattle.std.specs.Option.{option_to_list}
use Rattle.std.specs.Result.{result_ok}
use Rattle.pts_types.specs.declared.operation.Policy.{Policy}
use Rattle.pts_types.specs.declared.operation.Policy.TheVariants.{Seq}
use Rattle.pts_types.specs.declared.operation.ScalarOp.TheVariants.{Multiplies}
use Rattle.pts_types.specs.declared.value.Value.{Value}
use Rattle.pts_code.specs.Functions.{outcome_of}
use Rattle.pts_code.specs.declared.function.FunctionInfo.{FunctionInfo}
use Rattle.pts_lowering.specs.declared.forms.CellIndex.{CellIndex}
use Rattle.pts_lowering.specs.declared.forms.CellRange.{CellRange}
use Rattle.pts_lowering.specs.declared.forms.LoweredCall.{LoweredCall}
use Rattle.pts_lowering.specs.declared.forms.LoweredCall.TheVariants as lowered
use Rattle.pts_lowering.specs.declared.forms.Operation.{Operation}
use Rattle.pts_lowering.specs.declared.forms.Operation.TheVariants as operations
use Rattle.pts_lowering.specs.declared.forms.Reduction.{Reduction}
use Rattle.pts_lowering.specs.declared.forms.Scan.{Scan}
use Rattle.pts_lowering.specs.declared.forms.ScanOrder.{ScanOrder}
use Rattle.pts_lowering.specs.declared.forms.ScanOrder.TheVariants as orders
use Rattle.pts_program.specs.declared.lists.Lists.{Lists}
use Rattle.pts_store.specs.Steps.{Step}
use Rattle.pts_store.specs.Stores.{Store, cells_in, put_cell}
use Rattle.pts_groupings.specs.Laws.{given}
use Rattle.pts_groupings.specs.Scans as scans
use Rattle.pts_groupings.specs.Scans.{place, places_of}
use Rattle.pts_groupings.specs.Sums.{sum_of}
use Rattle.pts_eval.specs.Cells.{range_in}

-- ---- operations and items

-- what the function of this number gives for these arguments, or a throw
abbrev pub given_by : List FunctionInfo → ℕ → List Value → Option Value
given_by functions number arguments = result_ok (outcome_of functions number arguments)

-- what the operation of a call makes of two values
abbrev pub combining : List FunctionInfo → Operation → Value → Value → Option Value
combining functions (operations.Table op) x y = given op x y
combining functions (operations.Function number) x y = given_by functions number (x ∷ y ∷ [])

-- the item of an element: the element, or what the transform gives for it
abbrev pub item_of : List FunctionInfo → Option ℕ → Value → Option Value
item_of functions None x = Some x
item_of functions (Some number) x = given_by functions number (x ∷ [])

-- the item of two elements at one position: their product, or what the transform gives for them
abbrev pub item_of_pair : List FunctionInfo → Option ℕ → Value → Value → Option Value
item_of_pair functions None x y = given Multiplies x y
item_of_pair functions (Some number) x y = given_by functions number (x ∷ y ∷ [])

-- the items of two ranges, at the positions that both have
abbrev pub items_of_pairs : List FunctionInfo → Option ℕ → List Value → List Value → List (Option Value)
items_of_pairs functions transform [] ys = []
items_of_pairs functions transform (x ∷ xs) [] = []
items_of_pairs functions transform (x ∷ xs) (y ∷ ys) = item_of_pair functions transform x y ∷ items_of_pairs functions transform xs ys

-- ---- reductions ([reduce], [transform.reduce])

abbrev pub reduction_in : LoweredCall → Option Reduction
reduction_in (lowered.Reduce call) = Some call
reduction_in call = None

-- the reduction of this number, if the call is one
abbrev pub reduction_at : Lists → ℕ → Option Reduction
reduction_at lists number = option_and_then reduction_in (slice_get lists.lowered_calls number)

-- a reduction of the elements of one range as they are, and any other
abbrev pub IsReduce : Reduction → Type 0
IsReduce call = IsNone call.second × IsNone call.transform

abbrev pub IsTransformReduce : Reduction → Type 0
IsTransformReduce call = IsSome call.second ⊎ IsSome call.transform

-- the items of a reduction of one range or two: what the elements bring that the store has there
abbrev pub items_by : Option CellRange → List FunctionInfo → Store → Reduction → List (Option Value)
items_by None functions store call = map (item_of functions call.transform) (range_in store call.first)
items_by (Some second) functions store call = items_of_pairs functions call.transform (range_in store call.first) (range_in store second)

abbrev pub items_in : List FunctionInfo → Store → Reduction → List (Option Value)
items_in functions store call = items_by call.second functions store call

-- its sum over a grouping of chunks of this length, or a throw
abbrev pub reduced : List FunctionInfo → Store → ℕ → List (List ℕ) → Reduction → Option Value
reduced functions store size groups call =
    sum_of call.policy size groups (combining functions call.operation) call.initial (items_in functions store call)

-- what it writes: its sum, where it names a cell and has not thrown
abbrev pub steps_into : Option CellIndex → Option Value → List Step
steps_into None sum = []
steps_into (Some cell) None = []
steps_into (Some cell) (Some value) = record { array = cell.array; index = cell.index; value = value } ∷ []

-- ---- scans ([inclusive.scan], [exclusive.scan], [transform.inclusive.scan], [transform.exclusive.scan])

abbrev pub scan_in : LoweredCall → Option Scan
scan_in (lowered.Scan call) = Some call
scan_in call = None

-- the scan of this number, if the call is one
abbrev pub scan_at : Lists → ℕ → Option Scan
scan_at lists number = option_and_then scan_in (slice_get lists.lowered_calls number)

abbrev pub order_of : ScanOrder → scans.Scan
order_of orders.Inclusive = scans.Inclusive
order_of orders.Exclusive = scans.Exclusive

-- a scan has the positions that both its ranges have
abbrev pub positions_in : Store → Scan → ℕ
positions_in store call = min (length (range_in store call.source)) (call.target.high - call.target.low)

-- the place at p of a scan in index order, by the elements that it has read
abbrev pub place_in_turn : List FunctionInfo → Scan → List Value → ℕ → Option Value
place_in_turn functions call elements p =
    place Seq (order_of call.order) 1 (combining functions call.operation) call.initial (map (item_of functions call.transform) elements) p

-- the store with these places in the cells of an array from one on; a throw writes nothing
abbrev pub with_places : Store → ℕ → ℕ → List (Option Value) → Store
with_places store array index [] = store
with_places store array index (None ∷ rest) = with_places store array (index + 1) rest
with_places store array index (Some value ∷ rest) = with_places (put_cell store array index value) array (index + 1) rest

-- the first elements that are read in index order, each of them when the places before it are written, which the elements read so far make
abbrev pub elements_in_turn : (List Value → ℕ → Option Value) → Store → CellRange → CellRange → ℕ → List Value
elements_in_turn place store source target zero = []
elements_in_turn place store source target (suc p) =
    let earlier : List Value = elements_in_turn place store source target p in
    let now : Store = with_places store target.array target.low (map (place earlier) (range_with_len 0 p)) in
    earlier ++ option_to_list (slice_get (cells_in now source.array) (source.low + p))

-- the elements of a scan: under seq it reads them in index order, else all of them before it writes
abbrev pub elements_by : Policy → List FunctionInfo → Store → Scan → List Value
elements_by Seq functions store call = elements_in_turn (place_in_turn functions call) store call.source call.target (positions_in store call)
elements_by policy functions store call = take (positions_in store call) (range_in store call.source)

-- its items
abbrev pub scan_items : List FunctionInfo → Store → Scan → List (Option Value)
scan_items functions store call = map (item_of functions call.transform) (elements_by call.policy functions store call)

-- its places, with chunks of this length, or a throw where one of them throws
abbrev pub scanned : List FunctionInfo → Store → ℕ → Scan → Option (List Value)
scanned functions store size call =
    places_of call.policy (order_of call.order) size (combining functions call.operation) call.initial (scan_items functions store call)

-- values for the cells of an array from one on
abbrev pub steps_from : ℕ → ℕ → List Value → List Step
steps_from array index [] = []
steps_from array index (value ∷ rest) = record { array = array; index = index; value = value } ∷ steps_from array (index + 1) rest
