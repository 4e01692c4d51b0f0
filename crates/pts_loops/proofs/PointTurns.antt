-- Points that run one after the other at a position.
use Rattle.std.proofs.Common.{◌≡◌, ℕ, suc, ◌+◌, ◌-◌, ◌<◌, Bool, true, false, Option, Some, None, List, ◌++◌, length, take, set, refl, ap, sym, ◌∙◌, subst, get_or-set_other, arith}
use Rattle.std.specs.Prelude.{slice_get}
use Rattle.std.specs.Option.{option_and_then}
use Rattle.std.proofs.lemmas.List.{get_or-set_same, length-set, take-set}
use Rattle.pts_types.specs.declared.value.Value.{Value}
use Rattle.pts_code.specs.Outcomes.{Outcome}
use Rattle.pts_store.specs.Stores.{Store, IsCell, put_cell}
use Rattle.pts_store.specs.Writes.{PutsCell}
use Rattle.pts_store.proofs.Changes.{accepted-put}
use Rattle.pts_orders.specs.Effects as effects
use Rattle.pts_orders.specs.Effects.{State, applied, locals_at}
use Rattle.pts_orders.specs.Evaluations.{Evaluation, at}
use Rattle.pts_orders.specs.Grids.{grid, points_at}
use Rattle.pts_orders.specs.Runs.{run}
use Rattle.pts_cells.specs.WrittenCells.{Cell, WrittenCells, with_value}
use Rattle.pts_cells.proofs.Values.{value_cells, value_is_written}
use Rattle.pts_outcomes.specs.Acts as acts
use Rattle.pts_outcomes.specs.Acts.{Act, Notes, Point}
use Rattle.pts_outcomes.specs.Calls.{Call, cells, effect, in_index_order, locals, outcome_along, step}
use Rattle.pts_outcomes.specs.Effects.{Effect}
use Rattle.pts_outcomes.specs.Touching.{TouchesAct, TouchesPoint}
use Rattle.pts_outcomes.proofs.Touched.{touch_law}
use Rattle.pts_loops.specs.declared.run.Run.{Run}
use Rattle.pts_loops.specs.declared.turn.Turn.{Turn}
use Rattle.pts_loops.specs.Turns.{Goes, IsAtPoint, IsRunning, Keeps, Makes, Stands, accumulators, call_in, last, pass_of, rest_from}

-- ---- cells

-- a cell that an act touches is there
act_there : (store : Store) (act : Act) (p : ℕ) (c : Cell) → TouchesAct store act p c → IsCell store c.array c.index
act_there store (acts.Reads place) p c h = subst (λ a. IsCell store a c.index) (sym h.array) h.exists
act_there store (acts.Writes place x) p c h = subst (λ a. IsCell store a c.index) (sym h.array) h.exists
act_there store (acts.Updates place op x) p c h = subst (λ a. IsCell store a c.index) (sym h.array) h.exists
act_there store (acts.Computes x) p c h = absurd h

point_there : (store : Store) (o : Option Point) (p : ℕ) (c : Cell) → TouchesPoint store o p c → IsCell store c.array c.index
point_there store None p c h = absurd h
point_there store (Some point) p c h = act_there store point.act p c h

-- ---- one point more

module _ (now : Run) (store : Store) (p k : ℕ) (old : Turn) (so_far : IsAtPoint now store p k old) (there : p < now.head.now.positions) (before : k < last now store) where
  abbrev call : Call
  call = call_in now store

  abbrev s : State WrittenCells Notes
  s = so_far.state

  abbrev behind : List Evaluation
  behind = grid (suc p) (now.head.now.positions - suc p) call.first call.count

  module _ (made : Effect) (is : made ≡ effect store call (at p k) old.notes.items s.memory) where
    -- what the point does to the state
    stepped : step store call (at p k) s ≡ applied cells (locals call) (at p k) made s
    stepped =
        ap (λ l. applied cells (locals call) (at p k) (effect store call (at p k) l s.memory) s) so_far.own
        ∙ ap (λ e. applied cells (locals call) (at p k) e s) (sym is)

    one_and_rest : run (step store call) (rest_from now store p k) s
        ≡ option_and_then (run (step store call) (points_at p (suc k) (last now store - suc k) ++ behind)) (applied cells (locals call) (at p k) made s)
    one_and_rest =
        let more : last now store - k ≡ suc (last now store - suc k) = omega (arith, before) in
        ap (λ n. run (step store call) (points_at p k n ++ behind) s) more
        ∙ ap (option_and_then (run (step store call) (points_at p (suc k) (last now store - suc k) ++ behind))) stepped

    -- what is left behind it
    left_then : (t : State WrittenCells Notes) → applied cells (locals call) (at p k) made s ≡ Some t
        → run (step store call) (rest_from now store p (k + 1)) t ≡ outcome_along store call (in_index_order call)
    left_then t e =
        ap (λ n. run (step store call) (rest_from now store p n) t) (let next : k + 1 ≡ suc k = omega arith in next)
        ∙ sym (ap (option_and_then (run (step store call) (points_at p (suc k) (last now store - suc k) ++ behind))) e)
        ∙ sym one_and_rest ∙ so_far.left

    pub throws : applied cells (locals call) (at p k) made s ≡ None → outcome_along store call (in_index_order call) ≡ None
    throws e =
        sym so_far.left ∙ one_and_rest
        ∙ ap (option_and_then (run (step store call) (points_at p (suc k) (last now store - suc k) ++ behind))) e

  module _ (new : Turn) (keeps : Keeps old new) where
    begun_kept : (t : State WrittenCells Notes) → length t.locals ≡ length s.locals → take p t.locals ≡ take p s.locals → length new.notes.items ≡ length old.notes.items
        → Stands store t.memory new.layer → IsRunning now store p t new
    begun_kept t size before_kept count stands = record {
      size = size ∙ so_far.running.size;
      count = count ∙ so_far.running.count;
      stands = stands;
      first = keeps.first ∙ so_far.running.first;
      begun = keeps.begun ∙ so_far.running.begun;
      given = keeps.accumulators ∙ so_far.running.given ∙ sym (ap (accumulators (pass_of now) store) before_kept);
    }

    skipped : effects.Skips ≡ effect store call (at p k) old.notes.items s.memory → new.layer ≡ old.layer → new.notes.items ≡ old.notes.items → IsAtPoint now store p (k + 1) new
    skipped is layer notes = record {
      state = s;
      running = begun_kept s refl refl (ap length notes) (subst (Stands store s.memory) (sym layer) so_far.running.stands);
      own = so_far.own ∙ sym notes;
      fresh = so_far.fresh;
      values = keeps.values ∙ so_far.values;
      left = left_then effects.Skips is s refl;
    }

    noted : (outcome : Outcome) → effects.Notes outcome ≡ effect store call (at p k) old.notes.items s.memory → new.layer ≡ old.layer → new.notes.items ≡ set old.notes.items k (Some outcome)
        → IsAtPoint now store p (k + 1) new
    noted outcome is layer notes =
        let l : Notes = set (locals_at (locals call) s p) k (Some outcome) in
        let size = so_far.running.size in
        record {
          state = record s { locals = set s.locals p l };
          running = begun_kept (record s { locals = set s.locals p l }) (length-set s.locals p l) (take-set s.locals p l)
              (ap length notes ∙ length-set old.notes.items k (Some outcome)) (subst (Stands store s.memory) (sym layer) so_far.running.stands);
          own = get_or-set_same s.locals p l (locals call).nothing (omega (arith, there, size)) ∙ ap (λ m. set m k (Some outcome)) so_far.own ∙ sym notes;
          fresh = λ q h. get_or-set_other s.locals p q l (locals call).nothing (λ e. absurd (omega (arith, h, e))) ∙ so_far.fresh q h;
          values = keeps.values ∙ so_far.values;
          left = left_then (effects.Notes outcome) is (record s { locals = set s.locals p l }) refl;
        }

    put : (c : Cell) (v : Value) → effects.Puts c v ≡ effect store call (at p k) old.notes.items s.memory → new.layer.stands ≡ put_cell old.layer.stands c.array c.index v
        → PutsCell old.layer.writes new.layer.writes c.array c.index v → new.notes.items ≡ old.notes.items → IsAtPoint now store p (k + 1) new
    put c v is stands puts notes =
        let exists : IsCell store c.array c.index =
        point_there store (slice_get call.points k) p c ((touch_law store call).puts (at p k) old.notes.items s.memory c v (sym is)).0 in
        let were = so_far.running.stands in
        record {
          state = record s { memory = with_value s.memory c v };
          running = begun_kept (record s { memory = with_value s.memory c v }) refl refl (ap length notes) (record {
            cells = value_cells store s.memory c v were.cells;
            written = value_is_written store s.memory c v were.cells old.layer.writes new.layer.writes exists were.written puts;
            stands = stands ∙ ap (λ t. put_cell t c.array c.index v) were.stands ∙ sym (accepted-put store old.layer.writes new.layer.writes c.array c.index v puts);
          });
          own = so_far.own ∙ sym notes;
          fresh = so_far.fresh;
          values = keeps.values ∙ so_far.values;
          left = left_then (effects.Puts c v) is (record s { memory = with_value s.memory c v }) refl;
        }

    -- the effect of the point is made
    pub goes : (made : Effect) → made ≡ effect store call (at p k) old.notes.items s.memory → Makes made k true old new → IsAtPoint now store p (k + 1) new
    goes effects.Skips is h = skipped is h.0 h.1
    goes effects.Throws is h = absurd h
    goes (effects.Notes outcome) is h = noted outcome is h.0 h.1
    goes (effects.Puts c v) is h = put c v is h.0 h.1 h.2

    pub ends : (made : Effect) → made ≡ effect store call (at p k) old.notes.items s.memory → Makes made k false old new → outcome_along store call (in_index_order call) ≡ None
    ends effects.Skips is h = absurd h
    ends effects.Throws is h = throws effects.Throws is refl
    ends (effects.Notes outcome) is h = absurd h
    ends (effects.Puts c v) is h = absurd h

    -- it is, or it is a throw
    pub point_made : (made : Effect) (goes_on : Bool) → made ≡ effect store call (at p k) old.notes.items s.memory → Makes made k goes_on old new
        → Goes now store (IsAtPoint now store p (k + 1)) goes_on new
    point_made made true is h = goes made is h
    point_made made false is h = ends made is h
