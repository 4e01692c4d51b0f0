-- A transform that runs position by position over an overlay.
use Rattle.std.proofs.Common.{◌≡◌, ℕ, zero, suc, ◌+◌, ◌<◌, Option, Some, None, Ok, Err, List, [], ◌∷◌, length, set, refl, ap, sym, ◌∙◌, arith}
use Rattle.std.specs.Prelude.{slice_get}
use Rattle.std.specs.Option.{option_and_then}
use Rattle.std.specs.Result.{result_ok}
use Rattle.pts_types.specs.declared.value.Value.{Value}
use Rattle.pts_code.specs.declared.function.FunctionInfo.{FunctionInfo}
use Rattle.pts_code.specs.Functions.{outcome_of}
use Rattle.pts_code.specs.Outcomes.{Outcome}
use Rattle.pts_store.specs.Overlays.{Layer}
use Rattle.pts_store.specs.Stores.{Store, cells_in, put_cell}
use Rattle.pts_store.specs.Writes.{PutsCell}
use Rattle.pts_store.proofs.Changes.{length-cells_in-accepted}
use Rattle.pts_orders.specs.Effects.{State}
use Rattle.pts_orders.specs.Grids.{points_at}
use Rattle.pts_orders.specs.Runs.{run}
use Rattle.pts_cells.specs.WrittenCells.{WrittenCells, seen}
use Rattle.pts_cells.proofs.Cells.{set_twice}
use Rattle.pts_cells.proofs.Values.{seen_accepted}
use Rattle.pts_outcomes.specs.Acts.{Notes}
use Rattle.pts_outcomes.specs.Calls.{Call, step}
use Rattle.pts_outcomes.specs.MapCalls.{element, shared_positions, size_in, transform_with, turned}
use Rattle.pts_lowering.specs.declared.forms.CellRange.{CellRange}
use Rattle.pts_lowering.specs.declared.forms.Transform.{Transform}
use Rattle.pts_outcomes.specs.Turns.{HasRun}
use Rattle.pts_outcomes.proofs.MapTurns.{cell_of, ending, one_source, two_sources}
use Rattle.pts_outcomes.proofs.Turns.{goes_on, thrown}

-- ---- elements

record IsThere {A : Type 0} (xs : List A) (i : ℕ) : Type 0 where
  pub element : A
  pub there : slice_get xs i ≡ Some element

is_there : {A : Type 0} (xs : List A) (i : ℕ) → i < length xs → IsThere xs i
is_there [] i h = absurd (omega (arith, h))
is_there (x ∷ xs) zero h = record { element = x; there = refl }
is_there (x ∷ xs) (suc i) h = let rest = is_there xs i (omega (arith, h)) in record { element = rest.element; there = rest.there }

ok_is : (o : Outcome) (v : Value) → Some v ≡ result_ok o → o ≡ Ok v
ok_is (Ok w) v e = ap Ok (let same : w ≡ v = cc in same)
ok_is (Err thrown) v e = absurd cc

-- what a function gives, and what the run comes to by it
no_ok : (o : Outcome) (s : State WrittenCells Notes) (c : _) → None ≡ result_ok o → ending c s o ≡ None
no_ok (Ok w) s c e = absurd cc
no_ok (Err thrown) s c e = refl

module _ (functions : List FunctionInfo) (store : Store) (call : Transform) (p : ℕ) (layer : Layer) (all : Option WrittenCells) where
  -- the element of a range, as the run sees it
  module _ (body : Call) (so_far : HasRun store body p layer all) (range : CellRange) (within : p < size_in store range) where
    there : IsThere (cells_in layer.stands range.array) (range.low + p)
    there =
        let size : length (cells_in layer.stands range.array) ≡ length (cells_in store range.array) =
        ap (λ s. length (cells_in s range.array)) so_far.stands ∙ length-cells_in-accepted store layer.writes range.array in
        is_there (cells_in layer.stands range.array) (range.low + p) (omega (arith, within, size))

    shows : seen store so_far.memory (cell_of range p) ≡ Some there.element
    shows =
        seen_accepted store so_far.memory layer.writes range.array (range.low + p) so_far.written
        ∙ ap (λ s. slice_get (cells_in s range.array) (range.low + p)) (sym so_far.stands) ∙ there.there

  module _ (so_far : HasRun store (transform_with functions store None call) p layer all) (h : p < shared_positions store None call) where
    abbrev body : Call
    body = transform_with functions store None call

    abbrev now : State WrittenCells Notes
    now = record { memory = so_far.memory; locals = so_far.noted }

    abbrev first : p < size_in store call.first
    first = omega (arith, h)

    abbrev x : Value
    x = (there body so_far call.first first).element

    one_run : run (step store body) (points_at p 0 2) now
        ≡ ending (cell_of call.target p) (record now { locals = set so_far.noted p (Some (Ok x) ∷ None ∷ []) }) (outcome_of functions call.function (x ∷ []))
    one_run =
        let size = so_far.is_noted in
        one_source functions store call p now (omega (arith, h, size)) x first (omega (arith, h)) (shows body so_far call.first first) (so_far.fresh p (omega arith))

    one_turned : turned functions layer.stands None call p ≡ result_ok (outcome_of functions call.function (x ∷ []))
    one_turned = ap (option_and_then (λ v. result_ok (outcome_of functions call.function (v ∷ [])))) (there body so_far call.first first).there

    module _ (next : Layer) (v : Value) (gives : Some v ≡ turned functions layer.stands None call p)
        (puts : PutsCell layer.writes next.writes call.target.array (call.target.low + p) v) (is : next.stands ≡ put_cell layer.stands call.target.array (call.target.low + p) v) where
      one_goes : HasRun store body (p + 1) next all
      one_goes =
          let outcome = ok_is (outcome_of functions call.function (x ∷ [])) v (gives ∙ one_turned) in
          goes_on store body p layer all so_far (cell_of call.target p) v (Some (Ok x) ∷ None ∷ []) next h (omega (arith, h))
          (one_run ∙ ap (ending (cell_of call.target p) (record now { locals = set so_far.noted p (Some (Ok x) ∷ None ∷ []) })) outcome) puts is

    one_throws : None ≡ turned functions layer.stands None call p → all ≡ None
    one_throws none =
        thrown store body p layer all so_far h
        (one_run ∙ no_ok (outcome_of functions call.function (x ∷ [])) (record now { locals = set so_far.noted p (Some (Ok x) ∷ None ∷ []) }) (cell_of call.target p) (none ∙ one_turned))

  module _ (second : CellRange) (so_far : HasRun store (transform_with functions store (Some second) call) p layer all) (h : p < shared_positions store (Some second) call) where
    abbrev body2 : Call
    body2 = transform_with functions store (Some second) call

    abbrev now2 : State WrittenCells Notes
    now2 = record { memory = so_far.memory; locals = so_far.noted }

    abbrev left : p < size_in store call.first
    left = omega (arith, h)

    abbrev right : p < size_in store second
    right = omega (arith, h)

    abbrev y : Value
    y = (there body2 so_far call.first left).element

    abbrev z : Value
    z = (there body2 so_far second right).element

    abbrev both : Notes
    both = Some (Ok y) ∷ Some (Ok z) ∷ None ∷ []

    two_run : run (step store body2) (points_at p 0 3) now2
        ≡ ending (cell_of call.target p) (record now2 { locals = set so_far.noted p both }) (outcome_of functions call.function (y ∷ z ∷ []))
    two_run =
        let size = so_far.is_noted in
        two_sources functions store call p now2 (omega (arith, h, size)) y left (omega (arith, h)) (shows body2 so_far call.first left) second z right
        (shows body2 so_far second right) (so_far.fresh p (omega arith))
        ∙ ap (λ l. ending (cell_of call.target p) (record now2 { locals = l }) (outcome_of functions call.function (y ∷ z ∷ [])))
        (set_twice so_far.noted p (Some (Ok y) ∷ None ∷ None ∷ []) both)

    two_turned : turned functions layer.stands (Some second) call p ≡ result_ok (outcome_of functions call.function (y ∷ z ∷ []))
    two_turned =
        ap (option_and_then (λ v. option_and_then (λ w. result_ok (outcome_of functions call.function (v ∷ w ∷ []))) (element layer.stands second p))) (there body2 so_far call.first left).there
        ∙ ap (option_and_then (λ w. result_ok (outcome_of functions call.function (y ∷ w ∷ [])))) (there body2 so_far second right).there

    module _ (next : Layer) (v : Value) (gives : Some v ≡ turned functions layer.stands (Some second) call p)
        (puts : PutsCell layer.writes next.writes call.target.array (call.target.low + p) v) (is : next.stands ≡ put_cell layer.stands call.target.array (call.target.low + p) v) where
      two_go : HasRun store body2 (p + 1) next all
      two_go =
          let outcome = ok_is (outcome_of functions call.function (y ∷ z ∷ [])) v (gives ∙ two_turned) in
          goes_on store body2 p layer all so_far (cell_of call.target p) v both next h (omega (arith, h))
          (two_run ∙ ap (ending (cell_of call.target p) (record now2 { locals = set so_far.noted p both })) outcome) puts is

    two_throw : None ≡ turned functions layer.stands (Some second) call p → all ≡ None
    two_throw none =
        thrown store body2 p layer all so_far h
        (two_run ∙ no_ok (outcome_of functions call.function (y ∷ z ∷ [])) (record now2 { locals = set so_far.noted p both }) (cell_of call.target p) (none ∙ two_turned))

  -- ---- one position more

  -- the value that the function gives is written
  pub turn_goes : (second : Option CellRange) → HasRun store (transform_with functions store second call) p layer all → p < shared_positions store second call
      → (next : Layer) (v : Value) → Some v ≡ turned functions layer.stands second call p
      → PutsCell layer.writes next.writes call.target.array (call.target.low + p) v → next.stands ≡ put_cell layer.stands call.target.array (call.target.low + p) v
      → HasRun store (transform_with functions store second call) (p + 1) next all
  turn_goes None so_far h next v gives puts is = one_goes so_far h next v gives puts is
  turn_goes (Some second) so_far h next v gives puts is = two_go second so_far h next v gives puts is

  -- the function throws
  pub turn_throws : (second : Option CellRange) → HasRun store (transform_with functions store second call) p layer all → p < shared_positions store second call
      → None ≡ turned functions layer.stands second call p → all ≡ None
  turn_throws None so_far h none = one_throws so_far h none
  turn_throws (Some second) so_far h none = two_throw second so_far h none
