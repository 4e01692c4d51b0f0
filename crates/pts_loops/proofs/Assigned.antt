-- Cells of clauses that are assigned one after the other.
use Rattle.std.proofs.Common.{◌≡◌, ℕ, zero, suc, ◌+◌, ◌-◌, ◌<◌, ◌≤◌, Bool, true, false, Option, Some, None, List, [], ◌∷◌, ◌++◌, length, map, drop, take, get_or, refl, ap, sym, ◌∙◌, subst, arith, append_assoc, option_map}
use Rattle.std.specs.Prelude.{IfSome}
use Rattle.std.specs.Option.{option_to_list}
use Rattle.std.proofs.lemmas.List.{append-nil, drop_more}
use Rattle.pts_types.specs.declared.value.Value.{Value}
use Rattle.pts_lowering.specs.declared.forms.CellIndex.{CellIndex}
use Rattle.pts_lowering.specs.declared.forms.LoopClause.{LoopClause}
use Rattle.pts_program.specs.Ranges.{length_at}
use Rattle.pts_store.specs.Stores.{Store, IsCell, put_cell}
use Rattle.pts_store.specs.Writes.{PutsCell}
use Rattle.pts_store.proofs.Changes.{accepted-put}
use Rattle.pts_orders.specs.Grids.{grid}
use Rattle.pts_orders.specs.Runs.{run}
use Rattle.pts_cells.specs.WrittenCells.{AreWritten, Cell, with_value}
use Rattle.pts_cells.proofs.Values.{value_cells, value_is_written}
use Rattle.pts_outcomes.specs.Calls.{step}
use Rattle.pts_passes.specs.LiveOuts.{LiveOut, assigned, values_of}
use Rattle.pts_loops.specs.declared.run.Run.{Run}
use Rattle.pts_loops.specs.declared.turn.Turn.{Turn}
use Rattle.pts_loops.specs.Assigning.{AreAssigned, Assigns, IsAssigning, IsThrown, all_outs, out_of, outs}
use Rattle.pts_clear.specs.Showing.{HasCells}
use Rattle.pts_loops.specs.Turns.{IsAtPosition, Keeps, Stands, accumulators, begins_with, call_in, pass_of}
use Rattle.pts_loops.proofs.LoopTurns.{begun_there}

take_all : {A : Type 0} (n : ℕ) (xs : List A) → length xs ≡ n → take n xs ≡ xs
take_all zero [] e = refl
take_all zero (x ∷ xs) e = absurd (omega (arith, e))
take_all (suc n) [] e = refl
take_all (suc n) (x ∷ xs) e = ap (λ l. x ∷ l) (take_all n xs (omega (arith, e)))

same_values : (o : Option (List Value)) → option_map (λ (rest : List Value). [] ++ rest) o ≡ o
same_values None = refl
same_values (Some l) = refl

drop_past : {A : Type 0} (xs : List A) (j : ℕ) → length xs ≤ j → drop j xs ≡ []
drop_past [] zero h = refl
drop_past [] (suc j) h = refl
drop_past (x ∷ xs) zero h = absurd (omega (arith, h))
drop_past (x ∷ xs) (suc j) h = drop_past xs j (omega (arith, h))

-- their cells are there
abbrev pub AreThere : Store → List LiveOut → Type 0
AreThere store [] = Unit {0}
AreThere store (x ∷ xs) = IsCell store x.0.array x.0.index × AreThere store xs

-- a value more
one_value : (values : List Value) (v : Value) (o : Option (List Value))
    → option_map (λ rest. (values ++ v ∷ []) ++ rest) o ≡ option_map (λ rest. values ++ rest) (option_map (λ rest. v ∷ rest) o)
one_value values v None = refl
one_value values v (Some l) = ap Some (append_assoc values (v ∷ []) l)

module _ (now : Run) (store : Store) where
  abbrev n : ℕ
  n = now.head.now.positions

  abbrev cs : List LoopClause
  cs = now.head.now.clauses

  -- behind all positions nothing is assigned yet
  pub assigning : (turn : Turn) (values : List Value) → IsAtPosition now store n turn → values ≡ [] → IsAssigning now store 0 turn values
  assigning turn values at none =
      let s = at.state in
      let given : turn.accumulators.items ≡ accumulators (pass_of now) store s.locals = at.running.given ∙ ap (accumulators (pass_of now) store) (take_all n s.locals at.running.size) in
      let no_more : n - n ≡ 0 = omega arith in
      record {
        state = s;
        size = at.running.size;
        outcome = sym at.left ∙ ap (λ k. run (step store (call_in now store)) (grid n k (call_in now store).first (call_in now store).count) s) no_more;
        begun = at.running.begun;
        given = given;
        memory = s.memory;
        stands = at.running.stands;
        left = ap (λ l. assigned (outs store n cs l) s.memory) given;
        values_left = (λ i. option_map (λ rest. none i ++ rest) (values_of (outs store n cs (given i)))) ∙ same_values (values_of (all_outs now store s));
      }

  module _ (j : ℕ) (old : Turn) (before : List Value) (at : IsAssigning now store j old before) (within : j < length cs) (d : LoopClause) (a : Option Value) (few : j < length old.accumulators.items) where
    abbrev clause : LoopClause
    clause = get_or cs j d

    abbrev rest : List LiveOut
    rest = outs store n (drop (j + 1) cs) (drop (j + 1) old.accumulators.items)

    -- the next one and the rest
    next : outs store n (drop j cs) (drop j old.accumulators.items) ≡ out_of store n clause (get_or old.accumulators.items j a) ++ rest
    next = (λ i. outs store n (drop_more cs j d within i) (drop_more old.accumulators.items j a few i))

    module _ (own : List LiveOut) (is : own ≡ out_of store n clause (get_or old.accumulators.items j a)) where
      parts : outs store n (drop j cs) (drop j old.accumulators.items) ≡ own ++ rest
      parts = next ∙ ap (λ l. l ++ rest) (sym is)

      assigned_left : assigned (own ++ rest) at.memory ≡ assigned (all_outs now store at.state) at.state.memory
      assigned_left = sym (ap (λ l. assigned l at.memory) parts) ∙ at.left

      values_left : option_map (λ r. before ++ r) (values_of (own ++ rest)) ≡ values_of (all_outs now store at.state)
      values_left = sym (ap (λ l. option_map (λ r. before ++ r) (values_of l)) parts) ∙ at.values_left

    module _ (new : Turn) (after : List Value) (keeps : Keeps old new) where
      rest_kept : rest ≡ outs store n (drop (j + 1) cs) (drop (j + 1) new.accumulators.items)
      rest_kept = ap (λ l. outs store n (drop (j + 1) cs) (drop (j + 1) l)) (sym keeps.accumulators)

      no_cell : [] ≡ out_of store n clause (get_or old.accumulators.items j a) → new.layer ≡ old.layer → after ≡ before → IsAssigning now store (j + 1) new after
      no_cell is layer same = record {
        state = at.state;
        size = at.size;
        outcome = at.outcome;
        begun = keeps.begun ∙ at.begun;
        given = keeps.accumulators ∙ at.given;
        memory = at.memory;
        stands = subst (Stands store at.memory) (sym layer) at.stands;
        left = ap (λ l. assigned l at.memory) (sym rest_kept) ∙ assigned_left [] is;
        values_left = (λ i. option_map (λ r. same i ++ r) (values_of (sym rest_kept i))) ∙ values_left [] is;
      }

      a_cell : (cell : CellIndex) (v : Value) → (cell, Some v) ∷ [] ≡ out_of store n clause (get_or old.accumulators.items j a) → IsCell store cell.array cell.index
          → new.layer.stands ≡ put_cell old.layer.stands cell.array cell.index v → PutsCell old.layer.writes new.layer.writes cell.array cell.index v → after ≡ before ++ v ∷ []
          → IsAssigning now store (j + 1) new after
      a_cell cell v is exists stands puts same =
          let c : Cell = record { array = cell.array; index = cell.index } in
          record {
            state = at.state;
            size = at.size;
            outcome = at.outcome;
            begun = keeps.begun ∙ at.begun;
            given = keeps.accumulators ∙ at.given;
            memory = with_value at.memory c v;
            stands = record {
              cells = value_cells store at.memory c v at.stands.cells;
              written = value_is_written store at.memory c v at.stands.cells old.layer.writes new.layer.writes exists at.stands.written puts;
              stands = stands ∙ ap (λ t. put_cell t cell.array cell.index v) at.stands.stands ∙ sym (accepted-put store old.layer.writes new.layer.writes cell.array cell.index v puts);
            };
            left = ap (λ l. assigned l (with_value at.memory c v)) (sym rest_kept) ∙ assigned_left ((cell, Some v) ∷ []) is;
            values_left =
                (λ i. option_map (λ r. same i ++ r) (values_of (sym rest_kept i))) ∙ one_value before v (values_of rest)
                ∙ values_left ((cell, Some v) ∷ []) is;
          }

      pub assigns : (own : List LiveOut) → own ≡ out_of store n clause (get_or old.accumulators.items j a) → AreThere store own → Assigns own true old new before after
          → IsAssigning now store (j + 1) new after
      assigns [] is there h = no_cell is h.0 h.1
      assigns ((cell, Some v) ∷ []) is there h = a_cell cell v is there.0 h.0 h.1 h.2
      assigns ((cell, None) ∷ []) is there h = absurd h
      assigns (x ∷ y ∷ own) is there h = absurd (by x h)
        where
          by : (x : LiveOut) → Assigns (x ∷ y ∷ own) true old new before after → ⊥
          by (cell, Some v) h = h
          by (cell, None) h = h

      pub throws : (own : List LiveOut) → own ≡ out_of store n clause (get_or old.accumulators.items j a) → Assigns own false old new before after → IsThrown now store
      throws [] is h = absurd h
      throws ((cell, Some v) ∷ []) is h = absurd h
      throws ((cell, None) ∷ []) is h = record { state = at.state; size = at.size; outcome = at.outcome; thrown = sym (values_left ((cell, None) ∷ []) is) }
      throws (x ∷ y ∷ own) is h = absurd (by x h)
        where
          by : (x : LiveOut) → Assigns (x ∷ y ∷ own) false old new before after → ⊥
          by (cell, Some v) h = h
          by (cell, None) h = h

  -- all clauses are done
  pub all_assigned : (j : ℕ) (turn : Turn) (values : List Value) → IsAssigning now store j turn values → length cs ≤ j → AreAssigned now store turn values
  all_assigned j turn values at past =
      let none : drop j cs ≡ [] = drop_past cs j past in
      let nothing : outs store n (drop j cs) (drop j turn.accumulators.items) ≡ [] = ap (λ l. outs store n l (drop j turn.accumulators.items)) none in
      record {
        state = at.state;
        size = at.size;
        outcome = at.outcome;
        given = sym at.values_left ∙ ap (λ l. option_map (λ r. values ++ r) (values_of l)) nothing ∙ ap Some (append-nil values);
        written = subst (λ m. AreWritten m turn.layer.writes) (sym (ap (λ l. assigned l at.memory) nothing) ∙ at.left) at.stands.written;
      }

  -- ---- one clause more, as code has it

  there_of : HasCells now.arrays.now store → (out : Option LiveOut) → IfSome out (λ o. o.0.index < length_at now.arrays.now o.0.array) → AreThere store (option_to_list out)
  there_of has None h = tt
  there_of has (Some o) h = let size = has.cells o.0.array in (omega (arith, h, size), tt)

  module _ (given : List LoopClause) (same : given ≡ cs) (j : ℕ) (old : Turn) (before : List Value) (at : IsAssigning now store j old before) (within : j < length given) (d : LoopClause)
      (e : Value) (begun : e ≡ get_or old.begun.items j e) (a : Option Value) (own : a ≡ get_or old.accumulators.items j a) (many : length old.accumulators.items ≡ length given)
      (out : Option LiveOut) (gives : (s : Store) → e ≡ begins_with s (get_or given j d) → option_to_list out ≡ out_of s n (get_or given j d) a)
      (new : Turn) (after : List Value) (keeps : Keeps old new) (goes : Bool) (assigns_so : Assigns (option_to_list out) goes old new before after) where
    inside : j < length cs
    inside = subst (λ l. j < length l) same within

    few : j < length old.accumulators.items
    few = omega (arith, within, many)

    out_is : option_to_list out ≡ out_of store n (get_or cs j d) (get_or old.accumulators.items j a)
    out_is =
        gives store (begun_there store j given d old.begun.items e within (at.begun ∙ sym (ap (map (begins_with store)) same)) begun)
        ∙ (λ i. out_of store n (get_or (same i) j d) (own i))

    pub assigned_more : HasCells now.arrays.now store → IfSome out (λ o. o.0.index < length_at now.arrays.now o.0.array) → goes ≡ true → IsAssigning now store (j + 1) new after
    assigned_more has exists is =
        assigns j old before at inside d a few new after keeps (option_to_list out) out_is (there_of has out exists)
        (subst (λ g. Assigns (option_to_list out) g old new before after) is assigns_so)

    pub assigned_thrown : goes ≡ false → IsThrown now store
    assigned_thrown is =
        throws j old before at inside d a few new after keeps (option_to_list out) out_is
        (subst (λ g. Assigns (option_to_list out) g old new before after) is assigns_so)
