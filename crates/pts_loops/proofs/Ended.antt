-- How a loop ends that has run in index order, in one group.
use Rattle.std.proofs.Common.{◌≡◌, ℕ, zero, suc, ◌+◌, ◌<◌, Bool, true, false, if◌then◌else◌, Option, Some, None, List, [], ◌∷◌, ◌++◌, length, map, take, fold, refl, ap, sym, ◌∙◌, subst, arith}
use Rattle.std.specs.Prelude.{flat_map}
use Rattle.std.specs.List.{range_with_len}
use Rattle.std.proofs.lemmas.List.{length-map}
use Rattle.pts_types.specs.declared.value.Value.{Value}
use Rattle.pts_boards.specs.declared.pool.Pool.{Pool}
use Rattle.pts_code.specs.declared.function.FunctionInfo.{FunctionInfo}
use Rattle.pts_lowering.specs.declared.forms.LoopClause.{LoopClause}
use Rattle.pts_lowering.specs.declared.forms.LoopReduction.{LoopReduction}
use Rattle.pts_lowering.specs.declared.forms.LoopClause.TheVariants as clauses
use Rattle.pts_store.specs.Steps.{AreOf}
use Rattle.pts_store.specs.Stores.{Store}
use Rattle.pts_store.specs.Writes.{Writes}
use Rattle.pts_store.proofs.Together.{no_steps}
use Rattle.pts_orders.specs.Effects.{State}
use Rattle.pts_orders.specs.Evaluations.{Evaluation}
use Rattle.pts_cells.specs.WrittenCells.{AreWritten, WrittenCells}
use Rattle.pts_groupings.specs.Brackets.{combined}
use Rattle.pts_groupings.specs.Chunks.{chunk, chunk_count, single_group}
use Rattle.pts_groupings.specs.Reductions.{reduction_of}
use Rattle.pts_groupings.proofs.Chunks.{all_chunks}
use Rattle.pts_outcomes.specs.Acts.{Notes}
use Rattle.pts_outcomes.specs.Calls.{in_index_order, outcome_along}
use Rattle.pts_passes.specs.Ends.{EndsAlong, EndsAlongAll, EndsWith, LoopEnd, PermitsLoop, Terminated, Written, passed_along}
use Rattle.pts_passes.specs.Inductions.{all_stay, induction_at, live_value}
use Rattle.pts_passes.specs.Laws.{IsFree}
use Rattle.pts_passes.specs.LiveOuts.{assigned, combining, contributions, identity_for, last_value, live_outs, live_outs_from, reduced, values_of}
use Rattle.pts_passes.specs.Passes.{Pass}
use Rattle.pts_passes.proofs.Orders.{ends_agree, index_order_is_allowed}
use Rattle.pts_loops.specs.declared.run.Run.{Run}
use Rattle.pts_loops.specs.declared.turn.Turn.{Turn}
use Rattle.pts_loops.specs.Assigning.{AreAssigned, Ends, IsThrown, all_outs, outs}
use Rattle.pts_loops.specs.Turns.{IsAtPosition, accumulated, begins_with, call_in, pass_of}
use Rattle.pts_elements.proofs.Singles.{single_fits}

-- ---- one group

module _ {V : Type 0} (op : V → V → Option V) (live identity : V) (contributed : List (List V)) (size : ℕ) where
  in_groups : (count : ℕ) → flat_map (chunk size contributed) (range_with_len 0 count) ≡ contributed
      → reduction_of size (single_group count) op live identity contributed ≡ fold (combined op) (Some live) (map Some (flat_map (λ own. own) contributed))
  in_groups zero whole = ap (λ l. fold (combined op) (Some live) (map Some (flat_map (λ (own : List V). own) l))) whole
  in_groups (suc n) whole = ap (λ l. fold (combined op) (Some live) (map Some (flat_map (λ (own : List V). own) l))) whole

of_mapped : {A B : Type 0} (f : A → List B) (xs : List A) → flat_map (λ (own : List B). own) (map f xs) ≡ flat_map f xs
of_mapped f [] = refl
of_mapped f (x ∷ xs) = ap (λ l. f x ++ l) (of_mapped f xs)

module _ (pass : Pass) (store : Store) (size : ℕ) (some : 0 < size) (noted : List Notes) where
  abbrev groups : List (List ℕ)
  groups = single_group (chunk_count (length noted) size)

  reduced_is : (k : ℕ) (x : LoopReduction) → reduced pass store size groups noted k x
      ≡ fold (combined (combining pass.functions x.operation)) (Some (live_value store x.cell)) (map Some (flat_map (contributions pass k) noted))
  reduced_is k x =
      let live = live_value store x.cell in
      in_groups (combining pass.functions x.operation) live (identity_for x.operation x.identity live) (map (contributions pass k) noted) size (chunk_count (length noted) size)
      (ap (λ n. flat_map (chunk size (map (contributions pass k) noted)) (range_with_len 0 (chunk_count n size))) (sym (length-map noted (contributions pass k)))
      ∙ all_chunks size (map (contributions pass k) noted) some)
      ∙ ap (λ l. fold (combined (combining pass.functions x.operation)) (Some live) (map Some l)) (of_mapped (contributions pass k) noted)

  outs_from : (k : ℕ) (cs : List LoopClause) → live_outs_from pass store size groups noted k cs
      ≡ outs store pass.head.positions cs (accumulated pass.functions store (λ c. flat_map (contributions pass c) noted) k cs)
  outs_from k [] = refl
  outs_from k (clauses.Reduction x ∷ rest) = λ i. (x.cell, reduced_is k x i) ∷ outs_from (k + 1) rest i
  outs_from k (clauses.Induction x ∷ rest) = ap (λ l. last_value (induction_at store x pass.head.positions) x.initial ++ l) (outs_from (k + 1) rest)

-- ---- ends

length_accumulated : (functions : List FunctionInfo) (store : Store) (f : ℕ → List Value) (k : ℕ) (cs : List LoopClause) → length (accumulated functions store f k cs) ≡ length cs
length_accumulated functions store f k [] = refl
length_accumulated functions store f k (clauses.Reduction x ∷ rest) = ap suc (length_accumulated functions store f (k + 1) rest)
length_accumulated functions store f k (clauses.Induction x ∷ rest) = ap suc (length_accumulated functions store f (k + 1) rest)

module _ (now : Run) (store : Store) (turn : Turn) (at : IsAtPosition now store now.head.now.positions turn) where
  pub begun_many : length turn.begun.items ≡ length now.head.now.clauses
  begun_many = ap length at.running.begun ∙ length-map now.head.now.clauses (begins_with store)

  pub accumulators_many : length turn.accumulators.items ≡ length now.head.now.clauses
  accumulators_many = ap length at.running.given ∙ length_accumulated now.functions.now store (λ c. flat_map (contributions (pass_of now) c) (take now.head.now.positions at.state.locals)) 0 now.head.now.clauses

neither : {A : Type 0} (b : Bool) (x : A) → (if b then x else x) ≡ x
neither true x = refl
neither false x = refl

module _ (pool : Pool) (now : Run) (store : Store) where
  abbrev pass : Pass
  pass = pass_of now

  abbrev index : List Evaluation
  index = in_index_order (call_in now store)

  pub leaves_kind : (writes : Writes) → writes ≡ [] → all_stay store now.head.now ≡ false → EndsAlong pool pass store index (Terminated None) writes
  leaves_kind writes none out =
      subst (λ o. EndsWith pool pass store o (Terminated None) writes) (sym (ap (λ b. if b then outcome_along store (call_in now store) index else None) out))
      (subst (AreOf []) (sym none) no_steps)

  pub throws : (writes : Writes) → writes ≡ [] → outcome_along store (call_in now store) index ≡ None → EndsAlong pool pass store index (Terminated None) writes
  throws writes none thrown =
      subst (λ o. EndsWith pool pass store o (Terminated None) writes) (sym (ap (λ o. if all_stay store now.head.now then o else None) thrown ∙ neither (all_stay store now.head.now) None))
      (subst (AreOf []) (sym none) no_steps)

  module _ (groups : List (List ℕ)) (single : groups ≡ single_group (chunk_count now.head.now.positions pool.chunk)) (stay : all_stay store now.head.now ≡ true) where
    outs_are : (s : State WrittenCells Notes) → length s.locals ≡ now.head.now.positions → live_outs pass store pool.chunk groups s.locals ≡ all_outs now store s
    outs_are s size =
        ap (λ g. live_outs pass store pool.chunk g s.locals) (single ∙ ap (λ n. single_group (chunk_count n pool.chunk)) (sym size))
        ∙ outs_from pass store pool.chunk (let some = pool.has_position in omega (arith, some)) s.locals 0 now.head.now.clauses

    passed : (s : State WrittenCells Notes) → outcome_along store (call_in now store) index ≡ Some s → Some s ≡ passed_along pass store index
    passed s is = sym (ap (λ b. if b then outcome_along store (call_in now store) index else None) stay ∙ is)

    pub ends_written : (turn : Turn) (values : List Value) (writes : Writes) → AreAssigned now store turn values → writes ≡ turn.layer.writes
        → EndsAlong pool pass store index (Written values groups) writes
    ends_written turn values writes at same =
        subst (λ o. EndsWith pool pass store o (Written values groups) writes) (passed at.state at.outcome) (
          single_fits now.head.now.policy pool.workers (chunk_count now.head.now.positions pool.chunk) groups pool.has_worker single,
          record {
            given = ap values_of (outs_are at.state at.size) ∙ at.given;
            written = subst (AreWritten (assigned (live_outs pass store pool.chunk groups at.state.locals) at.state.memory)) (sym same)
                (subst (λ l. AreWritten (assigned l at.state.memory) turn.layer.writes) (sym (outs_are at.state at.size)) at.written);
          },
        )

    pub ends_thrown : (writes : Writes) → writes ≡ [] → IsThrown now store → EndsAlong pool pass store index (Terminated (Some groups)) writes
    ends_thrown writes none at =
        subst (λ o. EndsWith pool pass store o (Terminated (Some groups)) writes) (passed at.state at.outcome) (
          single_fits now.head.now.policy pool.workers (chunk_count now.head.now.positions pool.chunk) groups pool.has_worker single,
          record { thrown = ap values_of (outs_are at.state at.size) ∙ at.thrown; unwritten = subst (AreOf []) (sym none) no_steps },
        )

  pub permitted : (end : LoopEnd) (writes : Writes) → EndsAlong pool pass store index end writes → PermitsLoop pool pass store end writes
  permitted end writes h = record { order = index; allowed = index_order_is_allowed pass store; ends = h }

  pub in_all_orders : (end : LoopEnd) (writes : Writes) → EndsAlong pool pass store index end writes → IsFree pass store → EndsAlongAll pool pass store end writes
  in_all_orders end writes h free = ends_agree pool pass store end writes free index (index_order_is_allowed pass store) h

-- which of both ends it is
pub ends_as : (now : Run) (store : Store) (goes truth : Bool) (turn : Turn) (values : List Value) → goes ≡ truth → Ends now store goes turn values → Ends now store truth turn values
ends_as now store goes truth turn values is h = subst (λ g. Ends now store g turn values) is h
