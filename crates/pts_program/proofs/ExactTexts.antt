-- Of no sum in a statement of a script that breaks no rule is anything cut.
use Rattle.std.proofs.Common.{◌≡◌, ℕ, zero, suc, Bool, true, ◌&&◌, Option, Some, None, List, [], ◌∷◌, ◌++◌, slice_get, refl}
use Rattle.std.specs.Prelude.{All, IfSome, flat_map, is_none, is_some}
use Rattle.std.specs.List.{list_all}
use Rattle.std.proofs.lemmas.Bool.{and_parts, false≢true}
use Rattle.pts_types.specs.declared.value.Kind.{Kind}
use Rattle.pts_types.specs.declared.value.Kind.TheVariants as kinds
use Rattle.pts_tree.specs.Spelling.{has_parts, if_there}
use Rattle.pts_tree.specs.declared.sum.Sum.{Sum}
use Rattle.pts_tree.specs.declared.sum.Val.{Val}
use Rattle.pts_tree.specs.declared.sum.Val.TheVariants as vals
use Rattle.pts_tree.specs.declared.sum.Range.{Range}
use Rattle.pts_tree.specs.declared.sum.Cell.{Cell}
use Rattle.pts_tree.specs.declared.call.Call as call
use Rattle.pts_tree.specs.declared.call.CallForm.{CallForm}
use Rattle.pts_tree.specs.declared.call.CallForm.TheVariants as forms
use Rattle.pts_tree.specs.declared.loops.Loop as loops
use Rattle.pts_tree.specs.declared.loops.Clause.{Clause}
use Rattle.pts_tree.specs.declared.loops.Clause.TheVariants as clauses
use Rattle.pts_tree.specs.declared.loops.ReduceClause.{ReduceClause}
use Rattle.pts_tree.specs.declared.loops.Initial.{Initial}
use Rattle.pts_tree.specs.declared.loops.Initial.TheVariants as initials
use Rattle.pts_tree.specs.declared.script.Script.{Script}
use Rattle.pts_rules.specs.Known.{Scope, has, holds, is_place, kind_of_array, same_kind, sum_is, val_fits}
use Rattle.pts_rules.specs.Mistyped.{cell_right, clause_right, form_right, function_right, initial_right, op_right, range_right, source_kinds, sum_right, target_right}
use Rattle.pts_rules.specs.Parts.{Simple, Throw, Assign, Call, Loop, statements}
use Rattle.pts_rules.specs.Scopes.{known}
use Rattle.pts_syntax.specs.Syntax.{IsSpelled}
use Rattle.pts_points.proofs.Each.{Each}
use Rattle.pts_points.proofs.Each as each
use Rattle.pts_program.specs.Exactness.{IsExact, clause_sums, initial_sums, range_sums, sums_in, sums_of, val_sums}
use Rattle.pts_program.specs.Faults.{IsClean, IsSound, item_at, items_before}
use Rattle.pts_program.proofs.ExactSums.{exact_held, exact_place}
use Rattle.pts_program.proofs.ItemTurns.{IsWritten, items_written}
use Rattle.pts_program.proofs.Keeping.{keeps_all}
use Rattle.pts_program.proofs.RightTexts.{IsReady, item_ready}

module _ (scope : Scope) where
  abbrev Exact : Sum → Type 0
  Exact = IsExact scope

  place_exact : (x : Sum) → sum_is scope is_place x ≡ true → Exact x
  place_exact x h = exact_place scope [] x h

  held_exact : (kind : Kind) (x : Sum) → sum_is scope (holds kind) x ≡ true → Exact x
  held_exact kind x h = exact_held scope [] kind x h

  val_exact : (kind : Kind) (x : Val) → val_fits scope kind x ≡ true → Each Exact (val_sums x)
  val_exact kind (vals.Sum x) h = (held_exact kind x h, tt)
  val_exact kind vals.True h = tt
  val_exact kind vals.False h = tt

  range_exact : (x : Range) → range_right scope x ≡ true → Each Exact (range_sums x)
  range_exact x h =
      let sides = and_parts (is_some (kind_of_array scope x.array) && sum_is scope is_place x.low) (sum_is scope is_place x.high) h in
      let front = and_parts (is_some (kind_of_array scope x.array)) (sum_is scope is_place x.low) sides.0 in
      (place_exact x.low front.1, (place_exact x.high sides.1, tt))

  cell_exact : (kind : Kind) (x : Cell) → cell_right scope kind x ≡ true → Exact x.index
  cell_exact kind x h = place_exact x.index (and_parts (has (same_kind kind) (kind_of_array scope x.array)) (sum_is scope is_place x.index) h).1

  option_exact : {A : Type 0} (sums : A → List Sum) (test : A → Bool) → ((x : A) → test x ≡ true → Each Exact (sums x)) → (o : Option A) → if_there test o ≡ true → Each Exact (sums_in sums o)
  option_exact sums test exact None h = tt
  option_exact sums test exact (Some x) h = exact x h

  absent : {A : Type 0} (sums : A → List Sum) (o : Option A) → is_none o ≡ true → Each Exact (sums_in sums o)
  absent sums None h = tt
  absent sums (Some x) h = absurd (false≢true h)

  -- ---- calls

  -- the first value and the cell of the answer
  record Rest (x : call.Call) : Type 0 where
    pub init : Each Exact (sums_in val_sums x.init)
    pub store : Each Exact (sums_in (λ y. y.index ∷ []) x.store)

  store_exact : (kind : Kind) (o : Option Cell) → if_there (cell_right scope kind) o ≡ true → Each Exact (sums_in (λ y. y.index ∷ []) o)
  store_exact kind o h = option_exact (λ y. y.index ∷ []) (cell_right scope kind) (λ y g. (cell_exact kind y g, tt)) o h

  sum_rest : (x : call.Call) (o : Option Kind) → has (sum_right scope x) o ≡ true → Rest x
  sum_rest x None h = absurd (false≢true h)
  sum_rest x (Some kind) h =
      let p4 = and_parts _ (if_there (cell_right scope kind) x.store) h in
      let p3 = and_parts _ (target_right scope kind x.target) p4.0 in
      let p2 = and_parts _ (if_there (op_right scope kind) x.op) p3.0 in
      let p1 = and_parts (if_there (function_right scope (source_kinds scope x) kind) x.function) (if_there (val_fits scope kind) x.init) p2.0 in
      record { init = option_exact val_sums (val_fits scope kind) (val_exact kind) x.init p1.1; store = store_exact kind x.store p4.1 }

  rest_exact : (x : call.Call) (form : CallForm) → has_parts form x ≡ true → form_right form scope x ≡ true → Rest x
  rest_exact x forms.ForEach parts h =
      let p5 = and_parts _ (is_none x.store) parts in
      let p4 = and_parts _ (is_some x.function) p5.0 in
      let p3 = and_parts _ (is_none x.op) p4.0 in
      record { init = absent val_sums x.init (and_parts _ (is_none x.init) p3.0).1; store = absent (λ y. y.index ∷ []) x.store p5.1 }
  rest_exact x forms.Transform parts h =
      let p5 = and_parts _ (is_none x.store) parts in
      let p4 = and_parts _ (is_some x.function) p5.0 in
      let p3 = and_parts _ (is_none x.op) p4.0 in
      record { init = absent val_sums x.init (and_parts _ (is_none x.init) p3.0).1; store = absent (λ y. y.index ∷ []) x.store p5.1 }
  rest_exact x forms.FindIf parts h =
      let p4 = and_parts _ (is_some x.function) parts in
      let p3 = and_parts _ (is_none x.op) p4.0 in
      record { init = absent val_sums x.init (and_parts _ (is_none x.init) p3.0).1; store = store_exact kinds.U64 x.store (and_parts _ _ h).1 }
  rest_exact x forms.CountIf parts h =
      let p4 = and_parts _ (is_some x.function) parts in
      let p3 = and_parts _ (is_none x.op) p4.0 in
      record { init = absent val_sums x.init (and_parts _ (is_none x.init) p3.0).1; store = store_exact kinds.U64 x.store (and_parts _ _ h).1 }
  rest_exact x forms.Reduce parts h = sum_rest x _ h
  rest_exact x forms.TransformReduce parts h = sum_rest x _ h
  rest_exact x forms.InclusiveScan parts h = sum_rest x _ h
  rest_exact x forms.ExclusiveScan parts h = sum_rest x _ h
  rest_exact x forms.TransformInclusiveScan parts h = sum_rest x _ h
  rest_exact x forms.TransformExclusiveScan parts h = sum_rest x _ h

  -- lists joined from the left
  five : (a b c d e : List Sum) → Each Exact a → Each Exact b → Each Exact c → Each Exact d → Each Exact e → Each Exact (a ++ b ++ c ++ d ++ e)
  five a b c d e p q r s u = each.both Exact (a ++ b ++ c ++ d) e (each.both Exact (a ++ b ++ c) d (each.both Exact (a ++ b) c (each.both Exact a b p q) r) s) u

  call_exact : (x : call.Call) → IsReady scope (Call x) → Each Exact (sums_of (Call x))
  call_exact x h =
      let p3 = and_parts (range_right scope x.first && if_there (range_right scope) x.second && if_there (range_right scope) x.target) (form_right x.form scope x) h.sound.right in
      let p2 = and_parts (range_right scope x.first && if_there (range_right scope) x.second) (if_there (range_right scope) x.target) p3.0 in
      let p1 = and_parts (range_right scope x.first) (if_there (range_right scope) x.second) p2.0 in
      let rest = rest_exact x x.form (and_parts _ _ h.allowed).0 p3.1 in
      five (range_sums x.first) (sums_in range_sums x.second) (sums_in range_sums x.target) (sums_in val_sums x.init) (sums_in (λ y. y.index ∷ []) x.store)
      (range_exact x.first p1.0) (option_exact range_sums (range_right scope) range_exact x.second p1.1) (option_exact range_sums (range_right scope) range_exact x.target p2.1) rest.init rest.store

  -- ---- loops

  abbrev reduces : ReduceClause → Kind → Bool
  reduces x kind = cell_right scope kind x.cell && op_right scope kind x.op && if_there (val_fits scope kind) x.identity

  reduce_exact : (x : ReduceClause) (o : Option Kind) → has (reduces x) o ≡ true → Each Exact (clause_sums (clauses.Reduce x))
  reduce_exact x None h = absurd (false≢true h)
  reduce_exact x (Some kind) h =
      let p2 = and_parts _ (if_there (val_fits scope kind) x.identity) h in
      let p1 = and_parts (cell_right scope kind x.cell) (op_right scope kind x.op) p2.0 in
      each.both Exact (x.cell.index ∷ []) (sums_in val_sums x.identity) (cell_exact kind x.cell p1.0, tt) (option_exact val_sums (val_fits scope kind) (val_exact kind) x.identity p2.1)

  initial_exact : (kind : Kind) (x : Initial) → initial_right scope kind x ≡ true → Each Exact (initial_sums x)
  initial_exact kind (initials.Val x) h = val_exact kind x h
  initial_exact kind (initials.Cell x) h = (cell_exact kind x h, tt)

  clause_exact : (x : Clause) → clause_right scope x ≡ true → Each Exact (clause_sums x)
  clause_exact (clauses.Reduce x) h = reduce_exact x (kind_of_array scope x.cell.array) h
  clause_exact (clauses.Induct x) h =
      let p2 = and_parts _ (if_there (sum_is scope (holds x.kind)) x.step) h in
      each.both Exact (initial_sums x.initial) (sums_in (λ y. y ∷ []) x.step) (initial_exact x.kind x.initial (and_parts _ (initial_right scope x.kind x.initial) p2.0).1)
      (option_exact (λ y. y ∷ []) (sum_is scope (holds x.kind)) (λ y g. (held_exact x.kind y g, tt)) x.step p2.1)

  clauses_exact : (xs : List Clause) → list_all (clause_right scope) xs ≡ true → Each Exact (flat_map clause_sums xs)
  clauses_exact [] h = tt
  clauses_exact (x ∷ xs) h =
      let parts = and_parts (clause_right scope x) (list_all (clause_right scope) xs) h in
      each.both Exact (clause_sums x) (flat_map clause_sums xs) (clause_exact x parts.0) (clauses_exact xs parts.1)

  loop_exact : (x : loops.Loop) → IsReady scope (Loop x) → Each Exact (sums_of (Loop x))
  loop_exact x h =
      let p3 = and_parts _ (list_all (clause_right scope) x.clauses) (and_parts _ _ h.sound.right).0 in
      let p2 = and_parts (sum_is scope (holds kinds.I64) x.low && sum_is scope (holds kinds.I64) x.high) (if_there (sum_is scope (holds kinds.I64)) x.step) p3.0 in
      let p1 = and_parts (sum_is scope (holds kinds.I64) x.low) (sum_is scope (holds kinds.I64) x.high) p2.0 in
      each.both Exact ((x.low ∷ x.high ∷ []) ++ sums_in (λ y. y ∷ []) x.step) (flat_map clause_sums x.clauses)
      (each.both Exact (x.low ∷ x.high ∷ []) (sums_in (λ y. y ∷ []) x.step) (held_exact kinds.I64 x.low p1.0, (held_exact kinds.I64 x.high p1.1, tt))
      (option_exact (λ y. y ∷ []) (sum_is scope (holds kinds.I64)) (λ y g. (held_exact kinds.I64 y g, tt)) x.step p2.1))
      (clauses_exact x.clauses p3.1)

  -- ---- statements

  assign_exact : (at : Cell) (o : Option Kind) (test : Kind → Bool) → has (λ kind. cell_right scope kind at && test kind) o ≡ true → Exact at.index
  assign_exact at None test h = absurd (false≢true h)
  assign_exact at (Some kind) test h = cell_exact kind at (and_parts _ _ h).0

  statement_exact : (s : Simple) → IsReady scope s → Each Exact (sums_of s)
  statement_exact (Throw n) h = tt
  statement_exact (Assign at x) h = (assign_exact at (kind_of_array scope at.array) _ h.sound.right, tt)
  statement_exact (Call x) h = call_exact x h
  statement_exact (Loop x) h = loop_exact x h

  pub statements_exact : (ss : List Simple) → Each (IsReady scope) ss → Each Exact (flat_map sums_of ss)
  statements_exact [] h = tt
  statements_exact (s ∷ ss) h = each.both Exact (sums_of s) (flat_map sums_of ss) (statement_exact s h.0) (statements_exact ss h.1)

-- ---- scripts

-- each item that there is is sound, and so its sums are exact
pub sums_exact : (script : Script) (n : ℕ) → IsSpelled script → IsSound script
    → IfSome (item_at script n) (λ x. All (IsExact (known (items_before script n))) (flat_map sums_of (statements x)))
sums_exact script zero spelled sound = tt
sums_exact script (suc n) spelled sound =
    (elim (slice_get script.items n) as (λ o. slice_get script.items n ≡ o → IfSome o (λ x. IsClean script.version (items_before script (suc n)) x)
    → IfSome o (λ x. All (IsExact (known (items_before script (suc n)))) (flat_map sums_of (statements x)))) [
      | None ↦ λ is clean. tt
      | Some x ↦ λ is clean.
          let written = each.at_place IsWritten script.items n x (items_written script spelled) is in
          each.all_of (IsExact (known (items_before script (suc n)))) (flat_map sums_of (statements x))
          (statements_exact (known (items_before script (suc n))) (statements x) (item_ready (items_before script (suc n)) x (keeps_all script.version (items_before script (suc n)) x clean) written.allowed))
    ]) refl (sound (suc n))
