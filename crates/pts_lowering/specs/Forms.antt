-- Calls and loops with numbers in place of names, sums and signs.
use Rattle.std.specs.Prelude.{ℕ, unwrap_or, option_map, Option, Some, None, List, [], ◌∷◌, map, flat_map, pos}
use Rattle.pts_types.specs.declared.value.Kind.{Kind}
use Rattle.pts_types.specs.declared.value.Kind.TheVariants as kinds
use Rattle.pts_types.specs.declared.value.Value.{Value}
use Rattle.pts_types.specs.declared.operation.ScalarOp.TheVariants as operations
use Rattle.pts_tree.specs.declared.sum.Range.{Range}
use Rattle.pts_tree.specs.declared.sum.Cell.{Cell}
use Rattle.pts_tree.specs.declared.call.Op.{Op}
use Rattle.pts_tree.specs.declared.call.Op.TheVariants as ops
use Rattle.pts_tree.specs.declared.call.CallForm.{CallForm}
use Rattle.pts_tree.specs.declared.call.CallForm.TheVariants as forms
use Rattle.pts_tree.specs.declared.call.Call as call
use Rattle.pts_tree.specs.declared.loops.Loop as loops
use Rattle.pts_tree.specs.declared.loops.Clause.{Clause}
use Rattle.pts_tree.specs.declared.loops.Clause.TheVariants as clauses
use Rattle.pts_tree.specs.declared.loops.ReduceClause.{ReduceClause}
use Rattle.pts_tree.specs.declared.loops.InductClause.{InductClause}
use Rattle.pts_tree.specs.declared.loops.Initial.{Initial}
use Rattle.pts_tree.specs.declared.loops.Initial.TheVariants as initials
use Rattle.pts_tree.specs.declared.block.TaskStmt.{TaskStmt}
use Rattle.pts_tree.specs.declared.script.Item.{Item}
use Rattle.pts_rules.specs.Parts.{Name, Simple, Call, Loop, statements}
use Rattle.pts_rules.specs.Known.{Scope, function_number, natural, number}
use Rattle.pts_rules.specs.Counts.{loop_positions, step_of}
use Rattle.pts_rules.specs.Mistyped.{sum_kind}
use Rattle.pts_rules.proofs.Tasks.{task_statements}
use Rattle.pts_starts.specs.Starts.{value_of_val, value_with}
use Rattle.pts_points.specs.Lines.{array_at}
use Rattle.pts_points.specs.Points.{kind_at}
use Rattle.pts_lowering.specs.declared.forms.CellRange.{CellRange}
use Rattle.pts_lowering.specs.declared.forms.CellIndex.{CellIndex}
use Rattle.pts_lowering.specs.declared.forms.Operation.{Operation}
use Rattle.pts_lowering.specs.declared.forms.Operation.TheVariants as operation_forms
use Rattle.pts_lowering.specs.declared.forms.ForEach.{ForEach}
use Rattle.pts_lowering.specs.declared.forms.Transform.{Transform}
use Rattle.pts_lowering.specs.declared.forms.Search.{Search}
use Rattle.pts_lowering.specs.declared.forms.Reduction.{Reduction}
use Rattle.pts_lowering.specs.declared.forms.Scan.{Scan}
use Rattle.pts_lowering.specs.declared.forms.ScanOrder.{ScanOrder}
use Rattle.pts_lowering.specs.declared.forms.ScanOrder.TheVariants as orders
use Rattle.pts_lowering.specs.declared.forms.LoopReduction.{LoopReduction}
use Rattle.pts_lowering.specs.declared.forms.Induction.{Induction}
use Rattle.pts_lowering.specs.declared.forms.InitialValue.{InitialValue}
use Rattle.pts_lowering.specs.declared.forms.InitialValue.TheVariants as initial_values
use Rattle.pts_lowering.specs.declared.forms.LoopClause.{LoopClause}
use Rattle.pts_lowering.specs.declared.forms.LoopClause.TheVariants as loop_clauses
use Rattle.pts_lowering.specs.declared.forms.LoweredLoop.{LoweredLoop}
use Rattle.pts_lowering.specs.declared.forms.LoweredCall.{LoweredCall}
use Rattle.pts_lowering.specs.declared.forms.LoweredCall.TheVariants as lowered

-- ---- cells, operations and values

-- the cells of a range
abbrev pub range_of : Scope → Range → CellRange
range_of scope x = record { array = array_at scope x.array; low = natural (number scope x.low); high = natural (number scope x.high) }

-- one cell
abbrev pub cell_of : Scope → Cell → CellIndex
cell_of scope x = record { array = array_at scope x.array; index = natural (number scope x.index) }

-- the number of a function; 0 of what is no function, of which only a broken rule is asked
abbrev pub function_at : Scope → Name → ℕ
function_at scope name = unwrap_or (function_number scope name) 0

abbrev pub operation_of : Scope → Op → Operation
operation_of scope (ops.Table op) = operation_forms.Table op
operation_of scope (ops.Name name) = operation_forms.Function (function_at scope name)

-- the kind of a sum or a scan
abbrev pub kind_of_sum : Scope → call.Call → Kind
kind_of_sum scope x = unwrap_or (sum_kind scope x) kinds.U64

-- ---- parts that each call of a form has where the grammar spells it, and what stands for one that is not there

abbrev pub needed_function : Scope → Option Name → ℕ
needed_function scope None = 0
needed_function scope (Some name) = function_at scope name

abbrev pub needed_operation : Scope → Option Op → Operation
needed_operation scope None = operation_forms.Table operations.Plus
needed_operation scope (Some op) = operation_of scope op

abbrev pub needed_range : Scope → Option Range → CellRange
needed_range scope None = record { array = 0; low = 0; high = 0 }
needed_range scope (Some x) = range_of scope x

abbrev pub needed_value : Kind → Option Value → Value
needed_value kind x = unwrap_or x (value_with kind (pos 0))

-- ---- calls

abbrev pub for_each : Scope → call.Call → ForEach
for_each scope x = record { policy = x.policy; range = range_of scope x.first; function = needed_function scope x.function }

abbrev pub transform : Scope → call.Call → Transform
transform scope x =
    record {
      policy = x.policy;
      first = range_of scope x.first;
      second = option_map (range_of scope) x.second;
      target = needed_range scope x.target;
      function = needed_function scope x.function;
    }

abbrev pub search : Scope → call.Call → Search
search scope x =
    record {
      policy = x.policy;
      range = range_of scope x.first;
      predicate = needed_function scope x.function;
      into = option_map (cell_of scope) x.store;
    }

-- the first value, where there is one, at the kind of the sum
abbrev pub initial : Scope → call.Call → Option Value
initial scope x = option_map (value_of_val scope (kind_of_sum scope x)) x.init

abbrev pub reduction : Scope → call.Call → Reduction
reduction scope x =
    record {
      policy = x.policy;
      first = range_of scope x.first;
      second = option_map (range_of scope) x.second;
      transform = option_map (function_at scope) x.function;
      initial = needed_value (kind_of_sum scope x) (initial scope x);
      operation = needed_operation scope x.op;
      into = option_map (cell_of scope) x.store;
    }

abbrev pub scan : Scope → ScanOrder → call.Call → Scan
scan scope order x =
    record {
      policy = x.policy;
      order = order;
      source = range_of scope x.first;
      transform = option_map (function_at scope) x.function;
      initial = initial scope x;
      operation = needed_operation scope x.op;
      target = needed_range scope x.target;
    }

abbrev pub call_by_form : CallForm → Scope → call.Call → LoweredCall
call_by_form forms.ForEach scope x = lowered.ForEach (for_each scope x)
call_by_form forms.Transform scope x = lowered.Transform (transform scope x)
call_by_form forms.FindIf scope x = lowered.FindIf (search scope x)
call_by_form forms.CountIf scope x = lowered.CountIf (search scope x)
call_by_form forms.Reduce scope x = lowered.Reduce (reduction scope x)
call_by_form forms.TransformReduce scope x = lowered.Reduce (reduction scope x)
call_by_form forms.InclusiveScan scope x = lowered.Scan (scan scope orders.Inclusive x)
call_by_form forms.ExclusiveScan scope x = lowered.Scan (scan scope orders.Exclusive x)
call_by_form forms.TransformInclusiveScan scope x = lowered.Scan (scan scope orders.Inclusive x)
call_by_form forms.TransformExclusiveScan scope x = lowered.Scan (scan scope orders.Exclusive x)

-- ---- loops

-- a reduction; an operation of the table has the identity of the table, and none of its own
abbrev pub loop_reduction : Scope → ReduceClause → LoopReduction
loop_reduction scope x =
    record {
      cell = cell_of scope x.cell;
      operation = operation_of scope x.op;
      identity = option_map (value_of_val scope (kind_at scope x.cell.array)) x.identity;
    }

abbrev pub initial_value : Scope → Kind → Initial → InitialValue
initial_value scope kind (initials.Val x) = initial_values.Value (value_of_val scope kind x)
initial_value scope kind (initials.Cell x) = initial_values.Cell (cell_of scope x)

abbrev pub induction : Scope → InductClause → Induction
induction scope x = record { kind = x.kind; initial = initial_value scope x.kind x.initial; step = value_with x.kind (step_of scope x.step) }

abbrev pub loop_clause : Scope → Clause → LoopClause
loop_clause scope (clauses.Reduce x) = loop_clauses.Reduction (loop_reduction scope x)
loop_clause scope (clauses.Induct x) = loop_clauses.Induction (induction scope x)

-- the numbers that the index takes, and the clauses in their order
abbrev pub loop_of : Scope → loops.Loop → LoweredLoop
loop_of scope x =
    record {
      policy = x.policy;
      first = number scope x.low;
      step = step_of scope x.step;
      positions = loop_positions scope x;
      clauses = map (loop_clause scope) x.clauses;
    }

-- ---- items

-- a statement, if it is a call or a loop
abbrev pub lowered_of : Scope → Simple → List LoweredCall
lowered_of scope (Call x) = call_by_form x.form scope x ∷ []
lowered_of scope (Loop x) = lowered.Loop (loop_of scope x) ∷ []
lowered_of scope _ = []

-- the calls and loops of an item, in text order
abbrev pub lowered_calls : Scope → Item → List LoweredCall
lowered_calls scope x = flat_map (lowered_of scope) (statements x)

-- those of one statement of a block
abbrev pub task_calls : Scope → TaskStmt → List LoweredCall
task_calls scope x = flat_map (lowered_of scope) (task_statements x)
