-- Mistyped: names of the wrong sort, numbers out of their range, and expressions of the wrong kind.
use Rattle.std.specs.Prelude.{ℕ, ◌^◌, ◌-◌, nat_le, Bool, true, false, not, ◌&&◌, is_some, Option, Some, None, List, [], ◌∷◌, ◌++◌, map, fold, ℤ, pos, ◌+ℤ◌, ◌*ℤ◌}
use Rattle.std.specs.List.{list_all, range_with_len}
use Rattle.pts_types.specs.declared.value.Kind.{Kind}
use Rattle.pts_types.specs.declared.value.Kind.TheVariants as kinds
use Rattle.pts_types.specs.Arithmetic.{least_i64}
use Rattle.pts_tree.specs.Spelling.{if_there}
use Rattle.pts_tree.specs.declared.sum.Sum.{Sum}
use Rattle.pts_tree.specs.declared.sum.Range.{Range}
use Rattle.pts_tree.specs.declared.sum.Cell.{Cell}
use Rattle.pts_tree.specs.declared.call.Op.{Op}
use Rattle.pts_tree.specs.declared.call.Op.TheVariants as op_variants
use Rattle.pts_tree.specs.declared.call.Call as call
use Rattle.pts_tree.specs.declared.call.CallForm.{CallForm}
use Rattle.pts_tree.specs.declared.call.CallForm.TheVariants as forms
use Rattle.pts_tree.specs.declared.expr.Expr.{Expr}
use Rattle.pts_tree.specs.declared.expr.Place.{Place}
use Rattle.pts_tree.specs.declared.loops.Loop as loops
use Rattle.pts_tree.specs.declared.loops.Clause.{Clause}
use Rattle.pts_tree.specs.declared.loops.Clause.TheVariants as clauses
use Rattle.pts_tree.specs.declared.loops.ReduceClause.{ReduceClause}
use Rattle.pts_tree.specs.declared.loops.InductClause.{InductClause}
use Rattle.pts_tree.specs.declared.loops.Initial.{Initial}
use Rattle.pts_tree.specs.declared.loops.Initial.TheVariants as initials
use Rattle.pts_tree.specs.declared.loops.BodyStmt.{BodyStmt}
use Rattle.pts_tree.specs.declared.loops.BodyStmt.TheOpen.{BodyStmt-F}
use Rattle.pts_tree.specs.declared.loops.BodyStmt.TheFolds.{fold-BodyStmt}
use Rattle.pts_tree.specs.declared.script.Start.{Start}
use Rattle.pts_tree.specs.declared.script.Start.TheVariants as starts
use Rattle.pts_tree.specs.declared.script.Item.{Item}
use Rattle.pts_tree.specs.declared.script.Item.TheVariants as items
use Rattle.pts_rules.specs.Parts.{Name, Simple, Throw, Assign, Call, Loop, statements}
use Rattle.pts_rules.specs.declared.meaning.Meaning.TheVariants.{Value, View}
use Rattle.pts_rules.specs.Known.{Entry, Scope, function_of, kind_of_array, view_of, has, holds, lies_in, is_place, is_number, same_kind, sum_is, natural, number, val_fits}
use Rattle.pts_rules.specs.Kinds.{fits, let_kind}
use Rattle.pts_rules.specs.Scopes.{param_entry}

-- ---- what stands in calls and in heads of loops

-- an array, and ends that are places
abbrev pub range_right : Scope → Range → Bool
range_right scope x = is_some (kind_of_array scope x.array) && sum_is scope is_place x.low && sum_is scope is_place x.high

-- a cell of an array whose elements have this kind
abbrev pub cell_right : Scope → Kind → Cell → Bool
cell_right scope kind x = has (same_kind kind) (kind_of_array scope x.array) && sum_is scope is_place x.index

-- kind by kind the same
abbrev pub same_kinds : List Kind → List Kind → Bool
same_kinds [] [] = true
same_kinds (x ∷ xs) (y ∷ ys) = same_kind x y && same_kinds xs ys
same_kinds _ _ = false

-- a function from values of these kinds to one of this kind
abbrev pub function_right : Scope → List Kind → Kind → Name → Bool
function_right scope from to name = has (λ f. same_kinds from f.params && same_kind to f.kind) (function_of scope name)

-- one of the seven operations on `u64` or `i64`, or a function of two values of this kind that gives it
abbrev pub op_right : Scope → Kind → Op → Bool
op_right scope kind (op_variants.Table op) = is_number kind
op_right scope kind (op_variants.Name name) = function_right scope (kind ∷ kind ∷ []) kind name

-- ---- calls

-- the kind of a range's elements, and of no range
abbrev pub range_kinds : Scope → Option Range → List Kind
range_kinds scope None = []
range_kinds scope (Some x) = elim (kind_of_array scope x.array) [ None ↦ [] | Some kind ↦ kind ∷ [] ]

-- the kinds of the elements that a call reads at one position
abbrev pub source_kinds : Scope → call.Call → List Kind
source_kinds scope x = range_kinds scope (Some x.first) ++ range_kinds scope x.second

-- the elements of the range, where it is there, have this kind
abbrev pub target_right : Scope → Kind → Option Range → Bool
target_right scope kind x = if_there (λ r. has (same_kind kind) (kind_of_array scope r.array)) x

-- the function of a call goes from what the call reads to this kind
abbrev pub applies_to : Scope → Kind → call.Call → Bool
applies_to scope kind x = has (function_right scope (source_kinds scope x) kind) x.function

-- the sum's kind: that of the function where there is one, else that of the element
abbrev pub sum_kind : Scope → call.Call → Option Kind
sum_kind scope x = elim x.function [ None ↦ kind_of_array scope x.first.array | Some name ↦ elim (function_of scope name) [ None ↦ None | Some f ↦ Some f.kind ] ]

-- a sum or a scan of this kind: the first value, the operation, the target and the cell of the answer have it
abbrev pub sum_right : Scope → call.Call → Kind → Bool
sum_right scope x kind =
    if_there (function_right scope (source_kinds scope x) kind) x.function && if_there (val_fits scope kind) x.init && if_there (op_right scope kind) x.op
    && target_right scope kind x.target && if_there (cell_right scope kind) x.store

-- a predicate, and a `u64` cell for its answer
abbrev pub search_right : Scope → call.Call → Bool
search_right scope x = applies_to scope kinds.Bool x && if_there (cell_right scope kinds.U64) x.store

-- what each form of call asks of kinds
abbrev pub form_right : CallForm → Scope → call.Call → Bool
form_right forms.ForEach scope x = has (λ kind. applies_to scope kind x) (kind_of_array scope x.first.array)
form_right forms.Transform scope x = if_there (λ r. has (λ kind. applies_to scope kind x) (kind_of_array scope r.array)) x.target
form_right forms.FindIf scope x = search_right scope x
form_right forms.CountIf scope x = search_right scope x
form_right _ scope x = has (sum_right scope x) (sum_kind scope x)

-- a call whose ranges, function, values and cell are right
abbrev pub call_right : Scope → call.Call → Bool
call_right scope x =
    range_right scope x.first && if_there (range_right scope) x.second && if_there (range_right scope) x.target
    && form_right x.form scope x

-- ---- loops

-- the cell of an array of a kind that the operation, and the identity where there is one, have
abbrev pub reduce_right : Scope → ReduceClause → Bool
reduce_right scope x =
    has (λ kind. cell_right scope kind x.cell && op_right scope kind x.op && if_there (val_fits scope kind) x.identity) (kind_of_array scope x.cell.array)

abbrev pub initial_right : Scope → Kind → Initial → Bool
initial_right scope kind (initials.Val x) = val_fits scope kind x
initial_right scope kind (initials.Cell x) = cell_right scope kind x

-- an induction of `u64` or `i64` whose first value and step have its kind
abbrev pub induct_right : Scope → InductClause → Bool
induct_right scope x = is_number x.kind && initial_right scope x.kind x.initial && if_there (sum_is scope (holds x.kind)) x.step

abbrev pub clause_right : Scope → Clause → Bool
clause_right scope (clauses.Reduce x) = reduce_right scope x
clause_right scope (clauses.Induct x) = induct_right scope x

-- a view has the kind of its cell's array, an induction its own; a view of what is no array stands for nothing
abbrev pub clause_entries : Scope → Clause → List Entry
clause_entries scope (clauses.Reduce x) = elim (kind_of_array scope x.cell.array) [ None ↦ [] | Some kind ↦ (x.view, View kind) ∷ [] ]
clause_entries scope (clauses.Induct x) = (x.name, Value x.kind) ∷ []

-- the scope of a body: the index, which is an `i64`, the views and the inductions, and the globals
abbrev pub body_scope : Scope → loops.Loop → Scope
body_scope scope x = (x.index, Value kinds.I64) ∷ fold (λ entries c. clause_entries scope c ++ entries) scope x.clauses

-- a statement of a body: whether it is right in a scope, and the scope that it leaves to the statements after it
pub record Checked : Type 0 where
  pub right : Scope → Bool
  pub behind : Scope → Scope

-- each is right in the scope that those before it leave
abbrev pub all_right : Scope → List Checked → Bool
all_right scope [] = true
all_right scope (x ∷ xs) = x.right scope && all_right (x.behind scope) xs

-- a statement that declares nothing
abbrev pub checked : (Scope → Bool) → Checked
checked right = record { right = right; behind = λ scope. scope }

-- an array, and an expression of its elements' kind; the index is not typed
abbrev pub assign_right : Scope → Place → Expr → Bool
assign_right scope at x = has (λ kind. fits true scope kind x) (kind_of_array scope at.array)

-- the same, of `u64` or `i64`
abbrev pub ordered_right : Scope → Place → Expr → Bool
ordered_right scope at x = has (λ kind. is_number kind && fits true scope kind x) (kind_of_array scope at.array)

abbrev pub checked_step : BodyStmt-F Checked → Checked
checked_step (BodyStmt-F.Assign at x) = checked (λ scope. assign_right scope at x)
checked_step (BodyStmt-F.Let name x) = record { right = λ scope. fits true scope (let_kind scope x) x; behind = λ scope. (name, Value (let_kind scope x)) ∷ scope }
checked_step (BodyStmt-F.Combine name x) = checked (λ scope. has (λ kind. fits true scope kind x) (view_of scope name))
checked_step (BodyStmt-F.If x xs ys) = checked (λ scope. fits true scope kinds.Bool x && all_right scope xs && if_there (all_right scope) ys)
checked_step (BodyStmt-F.VecOff xs) = checked (λ scope. all_right scope xs)
checked_step (BodyStmt-F.Ordered at op x) = checked (λ scope. ordered_right scope at x)

-- a statement of a body
unfoldable pub checked_stmt : BodyStmt → Checked
checked_stmt = fold-BodyStmt Checked checked_step

-- bounds and a step in `i64`, clauses that are right in the loop's head, and a body that is right in its scope
abbrev pub loop_right : Scope → loops.Loop → Bool
loop_right scope x =
    sum_is scope (holds kinds.I64) x.low && sum_is scope (holds kinds.I64) x.high && if_there (sum_is scope (holds kinds.I64)) x.step
    && list_all (clause_right scope) x.clauses && all_right (body_scope scope x) (map checked_stmt x.body)

-- ---- items

-- a statement; the cell of an assignment has its expression's kind, and a code is at most 999
abbrev pub statement_right : Scope → Simple → Bool
statement_right scope (Throw n) = nat_le n 999
statement_right scope (Assign at x) = has (λ kind. cell_right scope kind at && fits true scope kind x) (kind_of_array scope at.array)
statement_right scope (Call x) = call_right scope x
statement_right scope (Loop x) = loop_right scope x

-- cell j of `iota x step y`
abbrev pub iota_cell : ℤ → ℤ → ℕ → ℤ
iota_cell x y j = x +ℤ pos j *ℤ y

-- both numbers have the array's kind, which is `u64`, where cells are taken modulo 2^64, or `i64`, where every cell has it too
abbrev pub iota_right : Scope → Kind → ℕ → Sum → Sum → Bool
iota_right scope kinds.Bool length x y = false
iota_right scope kinds.U64 length x y = sum_is scope (holds kinds.U64) x && sum_is scope (holds kinds.U64) y
iota_right scope kinds.I64 length x y =
    sum_is scope (holds kinds.I64) x && sum_is scope (holds kinds.I64) y
    && list_all (λ j. holds kinds.I64 (iota_cell (number scope x) (number scope y) j)) (range_with_len 0 length)

-- what an array of this kind and length may start with
abbrev pub start_right : Scope → Kind → ℕ → Start → Bool
start_right scope kind length (starts.List xs) = list_all (val_fits scope kind) xs
start_right scope kind length (starts.Fill x) = val_fits scope kind x
start_right scope kind length (starts.Iota x y) = iota_right scope kind length x y
start_right scope kind length (starts.Mix x) = same_kind kind kinds.U64 && sum_is scope (holds kinds.U64) x

-- a constant lies in one of `i64` and `u64`; a function's body has its kind and reads no elements
abbrev pub item_right : Scope → Item → Bool
item_right scope (items.Const x) = sum_is scope (lies_in least_i64 (pos (2 ^ 64 - 1))) x.value
item_right scope (items.Array x) = sum_is scope is_place x.length && start_right scope x.kind (natural (number scope x.length)) x.start
item_right scope (items.Function x) = fits false (map param_entry x.params ++ scope) x.kind x.body
item_right scope (items.Print x) = is_some (kind_of_array scope x)
item_right scope x = list_all (statement_right scope) (statements x)

-- Mistyped: an item that is not right in its scope
abbrev pub is_mistyped : Scope → Item → Bool
is_mistyped scope x = not (item_right scope x)
