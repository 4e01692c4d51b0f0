-- Positions that run one after the other.
use Rattle.std.proofs.Common.{◌≡◌, ℕ, suc, ◌+◌, ◌-◌, ◌<◌, None, ◌++◌, length, take, replicate, ap, sym, ◌∙◌, subst, arith}
use Rattle.std.specs.Prelude.{flat_map}
use Rattle.std.proofs.lemmas.List.{length-replicate}
use Rattle.pts_rules.specs.Parts.{Loop}
use Rattle.pts_points.specs.Points.{context_of, loop_piece}
use Rattle.pts_points.proofs.Wholes.{good_loop}
use Rattle.pts_store.specs.Stores.{Store}
use Rattle.pts_orders.specs.Grids.{grid, points_at}
use Rattle.pts_orders.specs.Runs.{run}
use Rattle.pts_outcomes.specs.Calls.{Call, locals, step}
use Rattle.pts_passes.specs.Inductions.{head_values}
use Rattle.pts_passes.specs.LiveOuts.{contributions}
use Rattle.pts_passes.specs.Passes.{Pass, names, text_points}
use Rattle.pts_loops.specs.declared.run.Run.{Run}
use Rattle.pts_loops.specs.declared.turn.Turn.{Turn}
use Rattle.pts_loops.specs.Gathering.{gathered}
use Rattle.pts_loops.specs.Turns.{IsAtPoint, IsAtPosition, IsReady, Stands, accumulated, call_in, last, pass_of, rest_from}
use Rattle.pts_loops.proofs.Gathered.{all_steps, one_position}

module _ (now : Run) (store : Store) (p : ℕ) (old new : Turn) where
  abbrev call : Call
  call = call_in now store

  abbrev pass : Pass
  pass = pass_of now

  -- a position at which nothing has run yet
  pub entered : IsAtPosition now store p old → p < now.head.now.positions → new.layer ≡ old.layer → new.first ≡ old.first → new.begun.items ≡ old.begun.items
      → new.accumulators.items ≡ old.accumulators.items → new.notes.items ≡ replicate (length old.notes.items) None → new.values.items ≡ head_values store now.head.now p
      → IsAtPoint now store p new.first new
  entered at there layer first begun given notes values =
      let s = at.state in
      let were = at.running in
      let empty : new.notes.items ≡ (locals call).nothing = notes ∙ ap (λ n. replicate n None) were.count in
      let more : now.head.now.positions - p ≡ suc (now.head.now.positions - suc p) = omega (arith, there) in
      let own : new.first ≡ call.first = first ∙ were.first in
      let rest : (call.first + call.count) - call.first ≡ call.count = omega arith in
      record {
        state = s;
        running = record {
          size = were.size;
          count = ap length empty ∙ length-replicate (last now store) None;
          stands = subst (Stands store s.memory) (sym layer) were.stands;
          first = own;
          begun = begun ∙ were.begun;
          given = given ∙ were.given;
        };
        own = at.fresh p (omega arith) ∙ sym empty;
        fresh = λ q l. at.fresh q (omega (arith, l));
        values = values;
        left =
            ap (λ k. run (step store call) (rest_from now store p k) s) own
            ∙ ap (λ n. run (step store call) (points_at p call.first n ++ grid (suc p) (now.head.now.positions - suc p) call.first call.count) s) rest
            ∙ sym (ap (λ n. run (step store call) (grid p n call.first call.count) s) more) ∙ at.left;
      }

  -- all points have run, and have given what they give
  pub passed : IsReady now → IsAtPoint now store p (last now store) old → p < now.head.now.positions → new.layer ≡ old.layer → new.first ≡ old.first → new.begun.items ≡ old.begun.items
      → new.notes.items ≡ old.notes.items
      → new.accumulators.items ≡ gathered now.functions.now now.head.now.clauses old.notes.items 0 now.steps.now old.accumulators.items
      → IsAtPosition now store (p + 1) new
  passed ready at there layer first begun notes given =
      let s = at.state in
      let were = at.running in
      let size = were.size in
      let next : suc p ≡ p + 1 = omega arith in
      let none : last now store - last now store ≡ 0 = omega arith in
      record {
        state = s;
        running = record {
          size = were.size;
          count = ap length notes ∙ were.count;
          stands = subst (Stands store s.memory) (sym layer) were.stands;
          first = first ∙ were.first;
          begun = begun ∙ were.begun;
          given =
              given ∙ ap (gathered now.functions.now now.head.now.clauses old.notes.items 0 now.steps.now) were.given
              ∙ all_steps pass store old.notes.items (λ c. flat_map (contributions pass c) (take p s.locals)) 0 (0 + (loop_piece (names pass) now.text.now).size) (text_points pass) now.steps.now
              ((good_loop (names pass) now.text.now).numbered (context_of (names pass) 0 (Loop now.text.now)) 0 0) ready.steps
              ∙ ap (λ l. accumulated pass.functions store (λ c. flat_map (contributions pass c) (take p s.locals) ++ contributions pass c l) 0 pass.head.clauses) (sym at.own)
              ∙ one_position pass store s.locals p (locals call).nothing (omega (arith, there, size));
        };
        fresh = λ q l. at.fresh q (omega (arith, l));
        left =
            ap (λ q. run (step store call) (grid q (now.head.now.positions - q) call.first call.count) s) (sym next)
            ∙ sym (ap (λ n. run (step store call) (points_at p (last now store) n ++ grid (suc p) (now.head.now.positions - suc p) call.first call.count) s) none)
            ∙ at.left;
      }
