-- The inductions of a loop ([parallel.alg.inductions]), and the values that the names of its head have at a position.
use Rattle.std.specs.Prelude.{ℕ, ◌+◌, ◌%◌, ◌^◌, Bool, true, is_some, unwrap_or, Option, Some, List, [], ◌∷◌, flat_map, slice_get, ℤ, pos, ◌+ℤ◌, ◌*ℤ◌}
use Rattle.std.specs.List.{list_all, range_with_len}
use Rattle.std.specs.Result.{result_ok}
use Rattle.pts_types.specs.Arithmetic.{exact}
use Rattle.pts_types.specs.declared.value.Kind.{Kind}
use Rattle.pts_types.specs.declared.value.Kind.TheVariants as kinds
use Rattle.pts_types.specs.declared.value.Value.{Value}
use Rattle.pts_types.specs.declared.value.Value.TheVariants as values
use Rattle.pts_rules.specs.Known.{natural}
use Rattle.pts_lowering.specs.declared.forms.CellIndex.{CellIndex}
use Rattle.pts_lowering.specs.declared.forms.Induction.{Induction}
use Rattle.pts_lowering.specs.declared.forms.InitialValue.{InitialValue}
use Rattle.pts_lowering.specs.declared.forms.InitialValue.TheVariants as initials
use Rattle.pts_lowering.specs.declared.forms.LoopClause.{LoopClause}
use Rattle.pts_lowering.specs.declared.forms.LoopClause.TheVariants as clauses
use Rattle.pts_lowering.specs.declared.forms.LoweredLoop.{LoweredLoop}
use Rattle.pts_store.specs.Stores.{Store, cells_in}

-- ---- cells of clauses

-- what no loop of a program leads to stands for 0
abbrev pub zero_value : Value
zero_value = values.U64 0

-- what the cell of a clause holds before the loop
abbrev pub live_value : Store → CellIndex → Value
live_value store cell = unwrap_or (slice_get (cells_in store cell.array) cell.index) zero_value

-- ---- inductions

abbrev pub number_of : Value → ℤ
number_of (values.I64 z) = z
number_of (values.U64 n) = pos n
number_of (values.Bool b) = pos 0

abbrev pub initial_in : Store → InitialValue → Value
initial_in store (initials.Value value) = value
initial_in store (initials.Cell cell) = live_value store cell

-- a number as a kind keeps it: modulo 2^64 in `u64`, and nothing out of the range of `i64`
abbrev pub kept : Kind → ℤ → Option Value
kept kinds.U64 z = Some (values.U64 (natural z % 2 ^ 64))
kept kind z = result_ok (exact z)

-- the value of an induction at a position: the initial value, and the step as often as positions stand before it; None where that
-- leaves the kind
abbrev pub induction_at : Store → Induction → ℕ → Option Value
induction_at store x p = kept x.kind (number_of (initial_in store x.initial) +ℤ pos p *ℤ number_of x.step)

-- how many of its values count: one at each position, and where it names a cell the one behind them, which the cell takes
abbrev pub values_counted : ℕ → InitialValue → ℕ
values_counted positions (initials.Value value) = positions
values_counted positions (initials.Cell cell) = positions + 1

-- all of them are of its kind
abbrev pub stays_in_kind : Store → ℕ → Induction → Bool
stays_in_kind store positions x = list_all (λ p. is_some (induction_at store x p)) (range_with_len 0 (values_counted positions x.initial))

abbrev pub clause_stays : Store → ℕ → LoopClause → Bool
clause_stays store positions (clauses.Reduction x) = true
clause_stays store positions (clauses.Induction x) = stays_in_kind store positions x

-- no induction of the loop leaves its kind
abbrev pub all_stay : Store → LoweredLoop → Bool
all_stay store head = list_all (clause_stays store head.positions) head.clauses

-- ---- positions

abbrev pub clause_values : Store → ℕ → LoopClause → List Value
clause_values store p (clauses.Reduction x) = []
clause_values store p (clauses.Induction x) = unwrap_or (induction_at store x p) zero_value ∷ []

-- the index at a position ([parallel.alg.for.loop]), and behind it the inductions in the order of their clauses
abbrev pub head_values : Store → LoweredLoop → ℕ → List Value
head_values store head p = values.I64 (head.first +ℤ pos p *ℤ head.step) ∷ flat_map (clause_values store p) head.clauses
