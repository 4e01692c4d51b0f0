-- `for_each` ([alg.foreach]) and `transform` ([alg.transform]) by their evaluations: at each position the elements of the ranges are read,
-- and what the function gives for them is written.
use Rattle.std.specs.Prelude.{ℕ, ◌+◌, ◌-◌, min, pos, option_and_then, Option, Some, None, List, [], ◌∷◌, length, map, slice_get}
use Rattle.std.specs.Result.{result_ok}
use Rattle.pts_types.specs.declared.value.Value.{Value}
use Rattle.pts_code.specs.declared.function.FunctionInfo.{FunctionInfo}
use Rattle.pts_code.specs.Functions.{outcome_of}
use Rattle.pts_code.specs.Outcomes.{and_then, in_order}
use Rattle.pts_code.specs.Values.{note}
use Rattle.pts_points.specs.Lines.{cells_from}
use Rattle.pts_store.specs.Stores.{Store, cells_in}
use Rattle.pts_lowering.specs.declared.forms.CellRange.{CellRange}
use Rattle.pts_lowering.specs.declared.forms.ForEach.{ForEach}
use Rattle.pts_lowering.specs.declared.forms.Transform.{Transform}
use Rattle.pts_outcomes.specs.Acts.{Act, Along, Computation, Place, Point, Reads, Writes}
use Rattle.pts_outcomes.specs.Calls.{Call}

-- ---- ranges

-- how many of the cells of a range its array has
abbrev pub size_in : Store → CellRange → ℕ
size_in store range = min (range.high - range.low) (length (cells_in store range.array) - range.low)

-- the cells of a range, one at each position
abbrev pub place_of : CellRange → Place
place_of range = record { array = range.array; index = Along (cells_from (pos range.low) (range.high - range.low)) }

-- ---- points

-- what a function gives for what these points have noted
abbrev pub applied : List FunctionInfo → ℕ → List ℕ → Computation
applied functions number points p notes = and_then (in_order (map (note notes) points)) (outcome_of functions number)

-- a point under no test
abbrev pub always : Act → Point
always act = record { branches = []; act = act }

abbrev pub reads : CellRange → Point
reads range = always (Reads (place_of range))

-- the ranges are read, and the target is written
abbrev pub transform_points : List FunctionInfo → Option CellRange → Transform → List Point
transform_points functions None call =
    reads call.first ∷ always (Writes (place_of call.target) (applied functions call.function (0 ∷ []))) ∷ []
transform_points functions (Some second) call =
    reads call.first ∷ reads second ∷ always (Writes (place_of call.target) (applied functions call.function (0 ∷ 1 ∷ []))) ∷ []

-- ---- calls

-- the positions that the ranges of a transform share
abbrev pub shared_positions : Store → Option CellRange → Transform → ℕ
shared_positions store None call = min (size_in store call.first) (size_in store call.target)
shared_positions store (Some second) call = min (size_in store call.first) (min (size_in store second) (size_in store call.target))

-- a transform of this range too
abbrev pub transform_with : List FunctionInfo → Store → Option CellRange → Transform → Call
transform_with functions store second call =
    record {
      positions = shared_positions store second call;
      first = 0;
      count = length (transform_points functions second call);
      points = transform_points functions second call;
    }

abbrev pub transform_call : List FunctionInfo → Store → Transform → Call
transform_call functions store call = transform_with functions store call.second call

-- `for_each` writes the range that it reads
abbrev pub as_transform : ForEach → Transform
as_transform call = record { policy = call.policy; first = call.range; second = None; target = call.range; function = call.function }

-- ---- turns

-- the element of a range at a position
abbrev pub element : Store → CellRange → ℕ → Option Value
element store range p = slice_get (cells_in store range.array) (range.low + p)

-- what a transform puts at a position into the target, where the cells hold what this store holds; nothing where its function throws
abbrev pub turned : List FunctionInfo → Store → Option CellRange → Transform → ℕ → Option Value
turned functions store None call p =
    option_and_then (λ x. result_ok (outcome_of functions call.function (x ∷ []))) (element store call.first p)
turned functions store (Some second) call p =
    option_and_then (λ x. option_and_then (λ y. result_ok (outcome_of functions call.function (x ∷ y ∷ []))) (element store second p))
    (element store call.first p)
