-- A loop before its first position.
use Rattle.std.proofs.Common.{◌≡◌, ℕ, zero, suc, ◌+◌, ◌-◌, Bool, None, List, [], ◌∷◌, length, map, get_or, replicate, refl, ap, sym, ◌∙◌, subst, arith}
use Rattle.std.specs.Prelude.{cond, count_by}
use Rattle.std.proofs.lemmas.List.Sums.{sum_by-cons}
use Rattle.std.proofs.lemmas.List.{length-replicate}
use Rattle.pts_tree.specs.declared.loops.Loop as loops
use Rattle.pts_rules.specs.Known.{Scope}
use Rattle.pts_code.specs.declared.function.FunctionInfo.{FunctionInfo}
use Rattle.pts_points.specs.Pieces as texts
use Rattle.pts_lowering.specs.declared.forms.LoopClause.{LoopClause}
use Rattle.pts_lowering.specs.declared.forms.LoopClause.TheVariants as clauses
use Rattle.pts_steps.specs.declared.step.Step.{Step}
use Rattle.pts_steps.specs.declared.step.Step.TheVariants as steps
use Rattle.pts_steps.specs.Steps.{AreSteps, Does}
use Rattle.pts_store.specs.Stores.{Store, accepted}
use Rattle.pts_store.proofs.Changes.{accepted-empty}
use Rattle.pts_orders.specs.Grids.{grid}
use Rattle.pts_orders.specs.Runs.{run}
use Rattle.pts_cells.specs.WrittenCells.{AreWritten, none_written}
use Rattle.pts_cells.proofs.Values.{none_are_written, none_cells}
use Rattle.pts_outcomes.specs.Calls.{Call, locals, start, step}
use Rattle.pts_passes.specs.Passes as passes
use Rattle.pts_passes.specs.Passes.{cells_named, names, text_points}
use Rattle.pts_loops.specs.declared.run.Run.{Run}
use Rattle.pts_loops.specs.declared.turn.Turn.{Turn}
use Rattle.pts_loops.specs.Points.{is_live_out}
use Rattle.pts_loops.specs.Turns.{IsAtPosition, IsReady, accumulated, begins_with, call_in, first_accumulator, pass_of}
use Rattle.pts_loops.proofs.Ready.{steps_are}

same_count : {A B : Type 0} (f : A → Bool) (g : B → Bool) (x : A) (y : B) (xs : List A) (ys : List B) → f x ≡ g y → count_by f xs ≡ count_by g ys → count_by f (x ∷ xs) ≡ count_by g (y ∷ ys)
same_count f g x y xs ys head rest =
    sum_by-cons (λ z. cond (f z) 1 0) x xs ∙ (λ i. cond (head i) 1 0 + rest i) ∙ sym (sum_by-cons (λ z. cond (g z) 1 0) y ys)

module _ (scope : Scope) (text : loops.Loop) where
  alike : (lets : List texts.LetPoint) (deed : texts.Deed) (s : Step) → Does scope text lets deed s → is_live_out s ≡ passes.is_live_out deed
  alike lets (texts.Reads array index) steps.Read fits = refl
  alike lets (texts.Assigns array index x) (steps.Write code) fits = refl
  alike lets (texts.Updates array index op x) (steps.Update applied code) fits = refl
  alike lets (texts.Notes x) (steps.Note code) fits = refl
  alike lets (texts.Tests x) (steps.Test code) fits = refl
  alike lets (texts.Gives view x) (steps.Give number code) fits = refl
  alike lets (texts.LivesOut array line) steps.LiveOut fits = refl
  alike lets deed s fits = absurd fits

  counted : (points : List texts.Point) (ss : List Step) → AreSteps scope text points ss → count_by is_live_out ss ≡ cells_named points
  counted [] [] fits = refl
  counted [] (s ∷ ss) fits = absurd fits
  counted (x ∷ xs) [] fits = absurd fits
  counted (x ∷ xs) (s ∷ ss) fits =
      same_count is_live_out (λ (y : texts.Point). passes.is_live_out y.deed) s x ss xs (alike x.context.lets x.deed s fits.0) (counted xs ss fits.1)

first_accumulators : (functions : List FunctionInfo) (store : Store) (k : ℕ) (cs : List LoopClause) → map (first_accumulator store) cs ≡ accumulated functions store (λ clause. []) k cs
first_accumulators functions store k [] = refl
first_accumulators functions store k (clauses.Reduction x ∷ rest) = ap (λ l. first_accumulator store (clauses.Reduction x) ∷ l) (first_accumulators functions store (k + 1) rest)
first_accumulators functions store k (clauses.Induction x ∷ rest) = ap (λ l. None ∷ l) (first_accumulators functions store (k + 1) rest)

replicate_at : {A : Type 0} (n i : ℕ) (x : A) → get_or (replicate n x) i x ≡ x
replicate_at zero i x = refl
replicate_at (suc n) zero x = refl
replicate_at (suc n) (suc i) x = replicate_at n i x

pub starts : (now : Run) (store : Store) (turn : Turn) → IsReady now → turn.layer.writes ≡ [] → turn.layer.stands ≡ store → turn.first ≡ count_by is_live_out now.steps.now
    → turn.begun.items ≡ map (begins_with turn.layer.stands) now.head.now.clauses → turn.notes.items ≡ replicate (length now.steps.now) None
    → turn.accumulators.items ≡ map (first_accumulator turn.layer.stands) now.head.now.clauses → IsAtPosition now store 0 turn
starts now store turn ready none is first begun notes given =
    let call : Call = call_in now store in
    let nothing = (locals call).nothing in
    record {
      state = start store call;
      running = record {
        size = length-replicate now.head.now.positions nothing;
        count = ap length notes ∙ length-replicate (length now.steps.now) None ∙ steps_are now ready store;
        stands = record {
          cells = none_cells store;
          written = subst (AreWritten (none_written store)) (sym none) (none_are_written store);
          stands = is ∙ sym (ap (accepted store) none ∙ accepted-empty store);
        };
        first = first ∙ counted (names (pass_of now)) now.text.now (text_points (pass_of now)) now.steps.now ready.steps;
        begun = begun ∙ ap (λ s. map (begins_with s) now.head.now.clauses) is;
        given = given ∙ ap (λ s. map (first_accumulator s) now.head.now.clauses) is ∙ first_accumulators now.functions.now store 0 now.head.now.clauses;
      };
      fresh = λ q l. replicate_at now.head.now.positions q nothing;
      left = ap (λ n. run (step store call) (grid 0 n call.first call.count) (start store call)) (let e : now.head.now.positions - 0 ≡ now.head.now.positions = omega arith in e);
    }
