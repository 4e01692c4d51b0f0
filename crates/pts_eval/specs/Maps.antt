-- Permitted answers of the map calls.
use Rattle.std.specs.Prelude.{◌≡◌, ◌≢◌, ℕ, ◌<◌, Bool, true, false, ◌||◌, nat_le, option_and_then, option_map, Option, Some, None, List, [], ◌∷◌, length, map, count_by, slice_get}
use Rattle.pts_types.specs.declared.operation.Policy.{Policy}
use Rattle.pts_types.specs.declared.operation.Policy.TheVariants as policies
use Rattle.pts_types.specs.declared.value.Value.{Value}
use Rattle.pts_types.specs.declared.value.Value.TheVariants as values
use Rattle.pts_code.specs.declared.function.FunctionInfo.{FunctionInfo}
use Rattle.pts_code.specs.Outcomes.{is_true}
use Rattle.pts_lowering.specs.declared.forms.ForEach.{ForEach}
use Rattle.pts_lowering.specs.declared.forms.LoweredCall.{LoweredCall}
use Rattle.pts_lowering.specs.declared.forms.LoweredCall.TheVariants as lowered
use Rattle.pts_lowering.specs.declared.forms.Search.{Search}
use Rattle.pts_lowering.specs.declared.forms.Transform.{Transform}
use Rattle.pts_program.specs.declared.lists.Lists.{Lists}
use Rattle.pts_store.specs.Steps.{AreOf}
use Rattle.pts_store.specs.Stores.{Store}
use Rattle.pts_store.specs.Writes.{Writes}
use Rattle.pts_orders.specs.Evaluations.{Evaluation}
use Rattle.pts_cells.specs.WrittenCells.{AreWritten, WrittenCells}
use Rattle.pts_outcomes.specs.Calls.{IsOrder, keeps_order, written_along}
use Rattle.pts_outcomes.specs.MapCalls.{as_transform, transform_call}
use Rattle.pts_eval.specs.Cells.{range_in}
use Rattle.pts_eval.specs.Sums.{given_by, steps_into}

-- what a map call answers: that it is done, a position or the end, a number of positions, or that its function threw
pub data MapEnd : Type 0 where
  Done : MapEnd
  Index : Option ℕ → MapEnd
  Count : ℕ → MapEnd
  Terminated : MapEnd

-- ---- `for_each` and `transform` ([alg.foreach], [alg.transform])

-- what is written along an order is all that the call writes; where an evaluation throws, nothing is
abbrev pub EndsWith : Option WrittenCells → MapEnd → Writes → Type 0
EndsWith (Some cells) Done writes = AreWritten cells writes
EndsWith None Terminated writes = AreOf [] writes
EndsWith cells end writes = ⊥

-- along this order a transform ends so
abbrev pub EndsAlong : List FunctionInfo → Store → Transform → List Evaluation → MapEnd → Writes → Type 0
EndsAlong functions store call order end writes = EndsWith (written_along store (transform_call functions store call) order) end writes

-- the policy of a transform allows this order of its evaluations
abbrev pub Allows : List FunctionInfo → Store → Transform → List Evaluation → Type 0
Allows functions store call order = IsOrder (keeps_order call.policy) (transform_call functions store call) order

-- it ends so along an order that its policy allows
pub record PermitsTransform (functions : List FunctionInfo) (store : Store) (call : Transform) (end : MapEnd) (writes : Writes) : Type 0 where
  pub order : List Evaluation
  pub allowed : Allows functions store call order
  pub ends : EndsAlong functions store call order end writes

-- ---- `find_if` and `count_if` ([alg.find], [alg.count])

-- whether the predicate holds for each element of the range; None is a throw
abbrev pub truths_in : List FunctionInfo → Store → Search → List (Option Bool)
truths_in functions store call = map (λ x. option_map is_true (given_by functions call.predicate (x ∷ []))) (range_in store call.range)

-- at no position before this one is it so
abbrev pub NoneBefore : List (Option Bool) → ℕ → Option Bool → Type 0
NoneBefore truths i truth = (p : ℕ) → p < i → slice_get truths p ≢ Some truth

-- The first position at which the predicate holds, if it throws at none before; the end, if it holds and throws at none; and
-- that it throws, at some position, or, where the search is exact, at one before which it does not hold.
abbrev pub PermitsPlace : Bool → List (Option Bool) → MapEnd → Type 0
PermitsPlace exact truths (Index (Some i)) = (slice_get truths i ≡ Some (Some true)) × NoneBefore truths i (Some true) × NoneBefore truths i None
PermitsPlace exact truths (Index None) = NoneBefore truths (length truths) (Some true) × NoneBefore truths (length truths) None
PermitsPlace exact truths Terminated = (p : ℕ) × (slice_get truths p ≡ Some None) × (exact ≡ true → NoneBefore truths p (Some true))
PermitsPlace exact truths end = ⊥

-- the policy that runs in order
abbrev pub is_seq : Policy → Bool
is_seq policies.Seq = true
is_seq policy = false

-- a search is exact where it runs in order, and with one worker
abbrev pub is_exact : Policy → ℕ → Bool
is_exact policy workers = is_seq policy || nat_le workers 1

abbrev pub is_match : Option Bool → Bool
is_match (Some truth) = truth
is_match None = false

-- how often the predicate holds, if it throws nowhere
abbrev pub PermitsCount : List (Option Bool) → MapEnd → Type 0
PermitsCount truths (Count n) = (n ≡ count_by is_match truths) × NoneBefore truths (length truths) None
PermitsCount truths Terminated = (p : ℕ) × (slice_get truths p ≡ Some None)
PermitsCount truths end = ⊥

-- the number of an answer; that of the end is how many positions there are
abbrev pub number_in : ℕ → MapEnd → Option Value
number_in size (Index (Some i)) = Some (values.U64 i)
number_in size (Index None) = Some (values.U64 size)
number_in size (Count n) = Some (values.U64 n)
number_in size end = None

-- a search writes its number, where it names a cell
abbrev pub WritesNumber : List (Option Bool) → Search → MapEnd → Writes → Type 0
WritesNumber truths call end writes = AreOf (steps_into call.into (number_in (length truths) end)) writes

-- ---- all of them

-- with so many workers, where the cells hold what this store holds, a call may answer so and write this
abbrev pub PermitsAnswer : ℕ → List FunctionInfo → Store → LoweredCall → MapEnd → Writes → Type 0
PermitsAnswer workers functions store (lowered.ForEach call) end writes = PermitsTransform functions store (as_transform call) end writes
PermitsAnswer workers functions store (lowered.Transform call) end writes = PermitsTransform functions store call end writes
PermitsAnswer workers functions store (lowered.FindIf call) end writes =
    PermitsPlace (is_exact call.policy workers) (truths_in functions store call) end × WritesNumber (truths_in functions store call) call end writes
PermitsAnswer workers functions store (lowered.CountIf call) end writes =
    PermitsCount (truths_in functions store call) end × WritesNumber (truths_in functions store call) call end writes
PermitsAnswer workers functions store call end writes = ⊥

-- along all orders that the policy allows the transform ends so
abbrev pub EndsAlongAll : List FunctionInfo → Store → Transform → MapEnd → Writes → Type 0
EndsAlongAll functions store call end writes = (order : List Evaluation) → Allows functions store call order → EndsAlong functions store call order end writes

-- ---- by their numbers

abbrev pub for_each_in : LoweredCall → Option ForEach
for_each_in (lowered.ForEach call) = Some call
for_each_in call = None

abbrev pub transform_in : LoweredCall → Option Transform
transform_in (lowered.Transform call) = Some call
transform_in call = None

abbrev pub find_if_in : LoweredCall → Option Search
find_if_in (lowered.FindIf call) = Some call
find_if_in call = None

abbrev pub count_if_in : LoweredCall → Option Search
count_if_in (lowered.CountIf call) = Some call
count_if_in call = None

-- the `for_each` of this number, if the call is one, and likewise the others
abbrev pub for_each_at : Lists → ℕ → Option ForEach
for_each_at lists number = option_and_then for_each_in (slice_get lists.lowered_calls number)

abbrev pub transform_at : Lists → ℕ → Option Transform
transform_at lists number = option_and_then transform_in (slice_get lists.lowered_calls number)

abbrev pub find_if_at : Lists → ℕ → Option Search
find_if_at lists number = option_and_then find_if_in (slice_get lists.lowered_calls number)

abbrev pub count_if_at : Lists → ℕ → Option Search
count_if_at lists number = option_and_then count_if_in (slice_get lists.lowered_calls number)
