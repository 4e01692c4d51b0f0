-- One position of a transform: its elements are noted, and what the function gives for them is written.
use Rattle.std.proofs.Common.{◌≡◌, ℕ, ◌+◌, ◌-◌, ◌*◌, ◌<◌, Bool, true, false, if◌then◌else◌, nat_lt, nat_le, Option, Some, None, Ok, Err, List, [], ◌∷◌, length, get_or, set, pos, ◌+ℤ◌, ◌*ℤ◌, refl, ap, ◌∙◌, arith}
use Rattle.std.specs.Prelude.{slice_get}
use Rattle.std.specs.Option.{option_and_then}
use Rattle.std.proofs.lemmas.Bool.Decides.{nat_tests}
use Rattle.std.proofs.lemmas.List.{get_or-set_same, length-set}
use Rattle.pts_types.specs.declared.value.Thrown.TheVariants.{Overflow}
use Rattle.pts_types.specs.declared.value.Value.{Value}
use Rattle.pts_affine.specs.Lines.{cell}
use Rattle.pts_code.specs.declared.function.FunctionInfo.{FunctionInfo}
use Rattle.pts_code.specs.Functions.{outcome_of}
use Rattle.pts_code.specs.Outcomes.{Outcome, and_then}
use Rattle.pts_points.specs.Lines.{cells_from}
use Rattle.pts_store.specs.Stores.{Store, cells_in}
use Rattle.pts_orders.specs.Effects as effects
use Rattle.pts_orders.specs.Effects.{State, applied, locals_at}
use Rattle.pts_orders.specs.Evaluations.{at}
use Rattle.pts_orders.specs.Grids.{points_at}
use Rattle.pts_orders.specs.Runs.{run}
use Rattle.pts_cells.specs.WrittenCells.{Cell, WrittenCells, seen, with_value}
use Rattle.pts_outcomes.specs.Acts.{Computation, Notes, Writes}
use Rattle.pts_outcomes.specs.Calls.{Call, cells, locals, step}
use Rattle.pts_outcomes.specs.Effects.{beside, cell_with, given, place_at, point_effect, puts}
use Rattle.pts_outcomes.specs.MapCalls.{always, place_of, reads, size_in, transform_with}
use Rattle.pts_lowering.specs.declared.forms.CellRange.{CellRange}
use Rattle.pts_lowering.specs.declared.forms.Transform.{Transform}
use Rattle.pts_outcomes.proofs.Turns.{thrown}

-- ---- places

-- the cell of a range at a position
abbrev pub cell_of : CellRange → ℕ → Cell
cell_of range p = record { array = range.array; index = range.low + p }

on_line : (low n p : ℕ) → p < n → cell (cells_from (pos low) n) p ≡ pos (low + p)
on_line low n p h = by (nat_le n 1) refl
  where
    by : (b : Bool) → nat_le n 1 ≡ b → (if b then pos 0 else pos 1) *ℤ pos p +ℤ pos low ≡ pos (low + p)
    by true e = let first : p ≡ 0 = grind (arith, nat_tests) in ap pos (let sum : 0 * p + low ≡ low + p = omega (arith, first) in sum)
    by false e = ap pos (let sum : 1 * p + low ≡ low + p = omega arith in sum)

place_in : (store : Store) (range : CellRange) (p : ℕ) (notes : Notes) → p < size_in store range → place_at store (place_of range) p notes ≡ Ok (cell_of range p)
place_in store range p notes h =
    let n = range.high - range.low in
    let line = cells_from (pos range.low) n in
    let below : nat_lt p n ≡ true = grind (arith, nat_tests) in
    let within : nat_lt (range.low + p) (length (cells_in store range.array)) ≡ true = grind (arith, nat_tests) in
    ap (λ b. and_then (if b then Ok (cell line p) else Err Overflow) (cell_with store range.array)) below
    ∙ ap (cell_with store range.array) (on_line range.low n p (omega arith))
    ∙ ap (λ b. if b then Ok (cell_of range p) else Err Overflow) within

-- ---- points

-- a value is written, or the run ends
abbrev pub ending : Cell → State WrittenCells Notes → Outcome → Option (State WrittenCells Notes)
ending c s (Ok v) = Some (record s { memory = with_value s.memory c v })
ending c s (Err thrown) = None

module _ (store : Store) (call : Call) (p k : ℕ) (s : State WrittenCells Notes) (notes : Notes) (noted : locals_at (locals call) s p ≡ notes) where
  read_step : (range : CellRange) (x : Value) → slice_get call.points k ≡ Some (reads range) → p < size_in store range → seen store s.memory (cell_of range p) ≡ Some x
      → step store call (at p k) s ≡ Some (record s { locals = set s.locals p (set notes k (Some (Ok x))) })
  read_step range x is h shows =
      let own = locals_at (locals call) s p in
      ap (λ o. applied cells (locals call) (at p k) (point_effect store o p own s.memory) s) is
      ∙ ap (λ r. applied cells (locals call) (at p k) (effects.Notes (and_then r (λ c. given (seen store s.memory c)))) s) (place_in store range p own h)
      ∙ ap (λ v. applied cells (locals call) (at p k) (effects.Notes (given v)) s) shows
      ∙ ap (λ l. Some (record s { locals = set s.locals p (set l k (Some (Ok x))) })) noted

  write_step : (range : CellRange) (x : Computation) (outcome : Outcome) → slice_get call.points k ≡ Some (always (Writes (place_of range) x)) → p < size_in store range → x p notes ≡ outcome
      → step store call (at p k) s ≡ ending (cell_of range p) s outcome
  write_step range x outcome is h gives =
      let own = locals_at (locals call) s p in
      let c = cell_of range p in
      ap (λ o. applied cells (locals call) (at p k) (point_effect store o p own s.memory) s) is
      ∙ ap (λ r. applied cells (locals call) (at p k) (puts (and_then r (λ d. beside d (x p own)))) s) (place_in store range p own h)
      ∙ ap (λ l. applied cells (locals call) (at p k) (puts (beside c (x p l))) s) noted
      ∙ ap (λ o. applied cells (locals call) (at p k) (puts (beside c o)) s) gives
      ∙ by outcome
    where
      by : (o : Outcome) → applied cells (locals call) (at p k) (puts (beside (cell_of range p) o)) s ≡ ending (cell_of range p) s o
      by (Ok v) = refl
      by (Err thrown) = refl

one_last : {A : Type 0} (o : Option A) → option_and_then (λ a. Some a) o ≡ o
one_last None = refl
one_last (Some a) = refl

-- ---- positions

module _ (functions : List FunctionInfo) (store : Store) (call : Transform) (p : ℕ) (s : State WrittenCells Notes) (there : p < length s.locals) where
  abbrev then_step : Call → ℕ → Option (State WrittenCells Notes) → Option (State WrittenCells Notes)
  then_step body k o = option_and_then (step store body (at p k)) o

  -- what is noted is found again
  noted_at : (body : Call) (notes : Notes) → locals_at (locals body) (record s { locals = set s.locals p notes }) p ≡ notes
  noted_at body notes = get_or-set_same s.locals p notes (locals body).nothing there

  module _ (x : Value) (first : p < size_in store call.first) (target : p < size_in store call.target) (shows : seen store s.memory (cell_of call.first p) ≡ Some x) where
    pub one_source : get_or s.locals p (None ∷ None ∷ []) ≡ None ∷ None ∷ []
        → run (step store (transform_with functions store None call)) (points_at p 0 2) s
        ≡ ending (cell_of call.target p) (record s { locals = set s.locals p (Some (Ok x) ∷ None ∷ []) }) (outcome_of functions call.function (x ∷ []))
    one_source fresh =
        let body = transform_with functions store None call in
        let notes : Notes = Some (Ok x) ∷ None ∷ [] in
        let s1 : State WrittenCells Notes = record s { locals = set s.locals p notes } in
        ap (option_and_then (run (step store body) (at p 1 ∷ []))) (read_step store body p 0 s (None ∷ None ∷ []) fresh call.first x refl first shows)
        ∙ one_last (step store body (at p 1) s1)
        ∙ write_step store body p 1 s1 notes (noted_at body notes) call.target _ (outcome_of functions call.function (x ∷ [])) refl target refl

    module _ (second : CellRange) (y : Value) (within : p < size_in store second) (shows_second : seen store s.memory (cell_of second p) ≡ Some y) where
      pub two_sources : get_or s.locals p (None ∷ None ∷ None ∷ []) ≡ None ∷ None ∷ None ∷ []
          → run (step store (transform_with functions store (Some second) call)) (points_at p 0 3) s
          ≡ ending (cell_of call.target p) (record s { locals = set (set s.locals p (Some (Ok x) ∷ None ∷ None ∷ [])) p (Some (Ok x) ∷ Some (Ok y) ∷ None ∷ []) })
          (outcome_of functions call.function (x ∷ y ∷ []))
      two_sources fresh =
          let body = transform_with functions store (Some second) call in
          let one : Notes = Some (Ok x) ∷ None ∷ None ∷ [] in
          let both : Notes = Some (Ok x) ∷ Some (Ok y) ∷ None ∷ [] in
          let s1 : State WrittenCells Notes = record s { locals = set s.locals p one } in
          let s2 : State WrittenCells Notes = record s { locals = set (set s.locals p one) p both } in
          let size = length-set s.locals p one in
          let again : get_or (set (set s.locals p one) p both) p (locals body).nothing ≡ both =
          get_or-set_same (set s.locals p one) p both (locals body).nothing (omega (arith, there, size)) in
          ap (option_and_then (run (step store body) (at p 1 ∷ at p 2 ∷ []))) (read_step store body p 0 s (None ∷ None ∷ None ∷ []) fresh call.first x refl first shows)
          ∙ ap (option_and_then (run (step store body) (at p 2 ∷ []))) (read_step store body p 1 s1 one (noted_at body one) second y refl within shows_second)
          ∙ one_last (step store body (at p 2) s2)
          ∙ write_step store body p 2 s2 both again call.target _ (outcome_of functions call.function (x ∷ y ∷ [])) refl target refl
