-- Positions that run one after another.
use Rattle.std.proofs.Common.{◌≡◌, ℕ, zero, suc, ◌+◌, ◌-◌, ◌<◌, ◌≤◌, Option, Some, None, [], get_or, set, replicate, refl, ap, sym, ◌∙◌, subst, get_or-set_other, arith}
use Rattle.std.specs.Option.{option_and_then, option_map}
use Rattle.std.proofs.lemmas.List.{length-replicate, length-set}
use Rattle.pts_types.specs.declared.value.Value.{Value}
use Rattle.pts_store.specs.Overlays.{Layer}
use Rattle.pts_store.specs.Stores.{Store, IsCell, accepted, put_cell}
use Rattle.pts_store.specs.Writes.{PutsCell}
use Rattle.pts_store.proofs.Changes.{accepted-empty, accepted-put}
use Rattle.pts_orders.specs.Effects.{State}
use Rattle.pts_orders.specs.Grids.{grid, points_at}
use Rattle.pts_orders.specs.Runs.{run}
use Rattle.pts_orders.proofs.Confluence.{run-append}
use Rattle.pts_cells.specs.WrittenCells.{AreWritten, Cell, WrittenCells, none_written, with_value}
use Rattle.pts_cells.proofs.Values.{none_are_written, none_cells, value_cells, value_is_written}
use Rattle.pts_outcomes.specs.Acts.{Notes}
use Rattle.pts_outcomes.specs.Calls.{Call, in_index_order, locals, start, step, written_along}
use Rattle.pts_outcomes.specs.Turns.{HasRun, written_from}

-- ---- lists

replicate_at : {A : Type 0} (n i : ℕ) (x : A) → get_or (replicate n x) i x ≡ x
replicate_at zero i x = refl
replicate_at (suc n) zero x = refl
replicate_at (suc n) (suc i) x = replicate_at n i x

-- ---- one position and the rest

module _ (store : Store) (call : Call) where
  -- what is written, once one position has run and then those behind it
  one_and_rest : (p : ℕ) (s : State WrittenCells Notes) → p < call.positions
      → written_from store call p s
      ≡ option_map (λ t. t.memory) (option_and_then (run (step store call) (grid (suc p) (call.positions - suc p) call.first call.count)) (run (step store call) (points_at p call.first call.count) s))
  one_and_rest p s h =
      let more : call.positions - p ≡ suc (call.positions - suc p) = omega arith in
      ap (λ n. option_map (λ t. t.memory) (run (step store call) (grid p n call.first call.count) s)) more
      ∙ ap (option_map (λ t. t.memory)) (run-append (step store call) (points_at p call.first call.count) (grid (suc p) (call.positions - suc p) call.first call.count) s)

  pub begun : (layer : Layer) → layer.writes ≡ [] → layer.stands ≡ store → HasRun store call 0 layer (written_along store call (in_index_order call))
  begun layer none is = record {
    memory = none_written store;
    noted = replicate call.positions (locals call).nothing;
    is_noted = length-replicate call.positions (locals call).nothing;
    fresh = λ q h. replicate_at call.positions q (locals call).nothing;
    are_cells = none_cells store;
    written = subst (AreWritten (none_written store)) (sym none) (none_are_written store);
    stands = is ∙ sym (ap (accepted store) none ∙ accepted-empty store);
    left = ap (λ n. option_map (λ t. t.memory) (run (step store call) (grid 0 n call.first call.count) (start store call))) (let e : call.positions - 0 ≡ call.positions = omega arith in e);
  }

  module _ (p : ℕ) (layer : Layer) (all : Option WrittenCells) (so_far : HasRun store call p layer all) where
    abbrev now : State WrittenCells Notes
    now = record { memory = so_far.memory; locals = so_far.noted }

    pub ended : call.positions ≤ p → (all ≡ Some so_far.memory) × AreWritten so_far.memory layer.writes
    ended h =
        let none : call.positions - p ≡ 0 = omega arith in
        (sym so_far.left ∙ ap (λ n. option_map (λ t. t.memory) (run (step store call) (grid p n call.first call.count) now)) none, so_far.written)

    -- the position throws
    pub thrown : p < call.positions → run (step store call) (points_at p call.first call.count) now ≡ None → all ≡ None
    thrown h none =
        sym so_far.left ∙ one_and_rest p now h
        ∙ ap (λ o. option_map (λ t. t.memory) (option_and_then (run (step store call) (grid (suc p) (call.positions - suc p) call.first call.count)) o)) none

    -- the position writes one value
    pub goes_on : (c : Cell) (v : Value) (notes : Notes) (next : Layer) → p < call.positions → IsCell store c.array c.index
        → run (step store call) (points_at p call.first call.count) now ≡ Some (record { memory = with_value so_far.memory c v; locals = set so_far.noted p notes })
        → PutsCell layer.writes next.writes c.array c.index v → next.stands ≡ put_cell layer.stands c.array c.index v → HasRun store call (p + 1) next all
    goes_on c v notes next h there made puts is = record {
      memory = with_value so_far.memory c v;
      noted = set so_far.noted p notes;
      is_noted = length-set so_far.noted p notes ∙ so_far.is_noted;
      fresh = λ q l. get_or-set_other so_far.noted p q notes (locals call).nothing (λ e. absurd (omega (arith, l, e))) ∙ so_far.fresh q (omega (arith, l));
      are_cells = value_cells store so_far.memory c v so_far.are_cells;
      written = value_is_written store so_far.memory c v so_far.are_cells layer.writes next.writes there so_far.written puts;
      stands = is ∙ ap (λ s. put_cell s c.array c.index v) so_far.stands ∙ sym (accepted-put store layer.writes next.writes c.array c.index v puts);
      left =
          ap (λ q. written_from store call q (record { memory = with_value so_far.memory c v; locals = set so_far.noted p notes })) (let e : p + 1 ≡ suc p = omega arith in e)
          ∙ sym (ap (λ o. option_map (λ t. t.memory) (option_and_then (run (step store call) (grid (suc p) (call.positions - suc p) call.first call.count)) o)) made)
          ∙ sym (one_and_rest p now h) ∙ so_far.left;
    }
