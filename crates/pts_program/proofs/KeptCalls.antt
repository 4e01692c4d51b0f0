-- Calls and clauses that are right are right without constants, where their arrays and functions are known.
use Rattle.std.proofs.Common.{◌≡◌, Bool, true, ◌&&◌, Option, Some, None, List, [], ◌∷◌, ◌++◌, map, option_map, option_and_then, ℤ, refl, sym, ap, ◌∙◌}
use Rattle.std.specs.Prelude.{is_some}
use Rattle.std.specs.List.{list_all}
use Rattle.std.proofs.lemmas.Bool.{and_parts, false≢true}
use Rattle.std.proofs.lemmas.Option.{none-some}
use Rattle.pts_types.specs.declared.value.Kind.{Kind}
use Rattle.pts_types.specs.declared.value.Kind.TheVariants as kinds
use Rattle.pts_tree.specs.Spelling.{if_there}
use Rattle.pts_tree.specs.declared.sum.Range.{Range}
use Rattle.pts_tree.specs.declared.sum.Cell.{Cell}
use Rattle.pts_tree.specs.declared.call.Op.{Op}
use Rattle.pts_tree.specs.declared.call.Op.TheVariants as op_variants
use Rattle.pts_tree.specs.declared.call.Call as call
use Rattle.pts_tree.specs.declared.call.CallForm.{CallForm}
use Rattle.pts_tree.specs.declared.call.CallForm.TheVariants as forms
use Rattle.pts_tree.specs.declared.loops.Clause.{Clause}
use Rattle.pts_tree.specs.declared.loops.Clause.TheVariants as clauses
use Rattle.pts_tree.specs.declared.loops.ReduceClause.{ReduceClause}
use Rattle.pts_tree.specs.declared.loops.InductClause.{InductClause}
use Rattle.pts_tree.specs.declared.loops.Initial.{Initial}
use Rattle.pts_tree.specs.declared.loops.Initial.TheVariants as initials
use Rattle.pts_rules.specs.declared.meaning.Meaning.{Meaning}
use Rattle.pts_rules.specs.declared.meaning.Meaning.TheVariants.{Constant, Array, Function, Value, View}
use Rattle.pts_rules.specs.declared.meaning.Signature.{Signature}
use Rattle.pts_rules.specs.Known.{Scope, meaning_of, as_array, as_function, array_of, function_of, kind_of_array, has, holds, is_number, is_place, same_kind, sum_is, val_fits}
use Rattle.pts_rules.specs.Mistyped.{applies_to, call_right, cell_right, clause_right, clause_entries, form_right, function_right, induct_right, initial_right, op_right, range_kinds, range_right, search_right, source_kinds, sum_right, target_right}
use Rattle.pts_rules.specs.Parts.{Name}
use Rattle.pts_constants.specs.Resolved.{resolved_call, resolved_cell, resolved_clause, resolved_induct, resolved_initial, resolved_range, resolved_reduce, resolved_sum, resolved_val}
use Rattle.pts_program.proofs.ExactSums.{still_fits, still_holds, still_place}
use Rattle.pts_program.proofs.KeptKinds.{plain}
use Rattle.pts_program.proofs.Truths.{both}

-- each name of an array or a function of a scope stands for it among these names too
pub record Agrees (scope names : Scope) : Type 0 where
  pub arrays : (name : Name) (kind : Kind) (size : ℤ) → meaning_of scope name ≡ Some (Array kind size) → meaning_of names name ≡ Some (Array kind size)
  pub functions : (name : Name) (f : Signature) → meaning_of scope name ≡ Some (Function f) → meaning_of names name ≡ Some (Function (plain f))

-- what holds of a part where it is there
there : {A : Type 0} (f : A → A) (p q : A → Bool) → ((x : A) → p x ≡ true → q (f x) ≡ true) → (o : Option A) → if_there p o ≡ true → if_there q (option_map f o) ≡ true
there f p q keeps None h = refl
there f p q keeps (Some x) h = keeps x h

same_there : {A : Type 0} (p q : A → Bool) → ((x : A) → p x ≡ true → q x ≡ true) → (o : Option A) → if_there p o ≡ true → if_there q o ≡ true
same_there p q keeps None h = refl
same_there p q keeps (Some x) h = keeps x h

same_has : {A : Type 0} (p q : A → Bool) → ((x : A) → p x ≡ true → q x ≡ true) → (o : Option A) → has p o ≡ true → has q o ≡ true
same_has p q keeps None h = h
same_has p q keeps (Some x) h = keeps x h

module _ (scope names : Scope) (agrees : Agrees scope names) where
  -- ---- names

  abbrev array_in : Option Meaning → Option (Kind × ℤ)
  array_in m = option_and_then as_array m

  array_by : (name : Name) (o : Option Meaning) → meaning_of scope name ≡ o → (x : Kind × ℤ) → array_in o ≡ Some x → array_of names name ≡ Some x
  array_by name None is x h = absurd (none-some x h)
  array_by name (Some (Constant z)) is x h = absurd (none-some x h)
  array_by name (Some (Array kind size)) is x h = ap array_in (agrees.arrays name kind size is) ∙ h
  array_by name (Some (Function f)) is x h = absurd (none-some x h)
  array_by name (Some (Value kind)) is x h = absurd (none-some x h)
  array_by name (Some (View kind)) is x h = absurd (none-some x h)

  -- an array is one here too, of the same kind and length
  pub array_again : (name : Name) (x : Kind × ℤ) → array_of scope name ≡ Some x → array_of names name ≡ Some x
  array_again name x h = array_by name (meaning_of scope name) refl x h

  some_array : (name : Name) (o : Option (Kind × ℤ)) → array_of scope name ≡ o → is_some o ≡ true → array_of names name ≡ array_of scope name
  some_array name None is some = absurd (false≢true some)
  some_array name (Some x) is some = array_again name x is ∙ sym is

  mapped : (o : Option (Kind × ℤ)) → is_some (option_map (λ x. x.0) o) ≡ true → is_some o ≡ true
  mapped None h = h
  mapped (Some x) h = refl

  pub array_same : (name : Name) → is_some (kind_of_array scope name) ≡ true → array_of names name ≡ array_of scope name
  array_same name some = some_array name (array_of scope name) refl (mapped (array_of scope name) some)

  pub kind_same : (name : Name) → is_some (kind_of_array scope name) ≡ true → kind_of_array names name ≡ kind_of_array scope name
  kind_same name some = ap (option_map (λ x. x.0)) (array_same name some)

  there_is : {A : Type 0} (test : A → Bool) (o : Option A) → has test o ≡ true → is_some o ≡ true
  there_is test None h = h
  there_is test (Some x) h = refl

  pub kind_tested : (name : Name) (test : Kind → Bool) → has test (kind_of_array scope name) ≡ true → kind_of_array names name ≡ kind_of_array scope name
  kind_tested name test h = kind_same name (there_is test (kind_of_array scope name) h)

  function_by : (name : Name) (o : Option Meaning) → meaning_of scope name ≡ o → (f : Signature) → option_and_then as_function o ≡ Some f → function_of names name ≡ Some (plain f)
  function_by name None is f h = absurd (none-some f h)
  function_by name (Some (Constant z)) is f h = absurd (none-some f h)
  function_by name (Some (Array kind size)) is f h = absurd (none-some f h)
  function_by name (Some (Function g)) is f h = ap (option_and_then as_function) (agrees.functions name g is) ∙ ap (option_map plain) h
  function_by name (Some (Value kind)) is f h = absurd (none-some f h)
  function_by name (Some (View kind)) is f h = absurd (none-some f h)

  -- and a function by its kinds
  function_again : (name : Name) (o : Option Signature) (test : Signature → Bool) → ((f : Signature) → test f ≡ true → test (plain f) ≡ true) → function_of scope name ≡ o → has test o ≡ true
      → has test (function_of names name) ≡ true
  function_again name None test keeps is h = absurd (false≢true h)
  function_again name (Some f) test keeps is h = ap (has test) (function_by name (meaning_of scope name) refl f is) ∙ keeps f h

  function_still : (from : List Kind) (to : Kind) (name : Name) → function_right scope from to name ≡ true → function_right names from to name ≡ true
  function_still from to name h = function_again name (function_of scope name) _ (λ f g. g) refl h

  op_still : (kind : Kind) (x : Op) → op_right scope kind x ≡ true → op_right names kind x ≡ true
  op_still kind (op_variants.Table op) h = h
  op_still kind (op_variants.Name name) h = function_still (kind ∷ kind ∷ []) kind name h

  -- ---- ranges and cells

  abbrev range : Range → Range
  range = resolved_range scope

  range_still : (x : Range) → range_right scope x ≡ true → range_right names (range x) ≡ true
  range_still x h =
      let sides = and_parts (is_some (kind_of_array scope x.array) && sum_is scope is_place x.low) (sum_is scope is_place x.high) h in
      let front = and_parts (is_some (kind_of_array scope x.array)) (sum_is scope is_place x.low) sides.0 in
      both _ _ (both _ _ (ap is_some (kind_same x.array front.0) ∙ front.0) (still_place scope names x.low front.1)) (still_place scope names x.high sides.1)

  range_kind : (x : Range) → range_right scope x ≡ true → kind_of_array names x.array ≡ kind_of_array scope x.array
  range_kind x h =
      let sides = and_parts (is_some (kind_of_array scope x.array) && sum_is scope is_place x.low) (sum_is scope is_place x.high) h in
      kind_same x.array (and_parts (is_some (kind_of_array scope x.array)) (sum_is scope is_place x.low) sides.0).0

  pub cell_still : (kind : Kind) (x : Cell) → cell_right scope kind x ≡ true → cell_right names kind (resolved_cell scope x) ≡ true
  cell_still kind x h =
      let parts = and_parts (has (same_kind kind) (kind_of_array scope x.array)) (sum_is scope is_place x.index) h in
      both _ _ (ap (has (same_kind kind)) (kind_tested x.array (same_kind kind) parts.0) ∙ parts.0) (still_place scope names x.index parts.1)

  -- ---- calls

  range_kinds_same : (o : Option Range) → if_there (range_right scope) o ≡ true → range_kinds names (option_map range o) ≡ range_kinds scope o
  range_kinds_same None h = refl
  range_kinds_same (Some x) h = ap (λ k. elim k [ None ↦ [] | Some kind ↦ kind ∷ [] ]) (range_kind x h)

  module _ (x : call.Call) (first : range_right scope x.first ≡ true) (second : if_there (range_right scope) x.second ≡ true) (target : if_there (range_right scope) x.target ≡ true) where
    abbrev y : call.Call
    y = resolved_call scope x

    sources : source_kinds names y ≡ source_kinds scope x
    sources = λ i. range_kinds_same (Some x.first) first i ++ range_kinds_same x.second second i

    applies : (kind : Kind) → applies_to scope kind x ≡ true → applies_to names kind y ≡ true
    applies kind h =
        same_has (function_right scope (source_kinds scope x) kind) (function_right names (source_kinds names y) kind)
        (λ name right. ap (λ from. function_right names from kind name) sources ∙ function_still (source_kinds scope x) kind name right) x.function h

    target_still : (kind : Kind) (o : Option Range) → if_there (range_right scope) o ≡ true → target_right scope kind o ≡ true → target_right names kind (option_map range o) ≡ true
    target_still kind None right h = refl
    target_still kind (Some r) right h = ap (has (same_kind kind)) (range_kind r right) ∙ h

    search_still : search_right scope x ≡ true → search_right names y ≡ true
    search_still h =
        let parts = and_parts (applies_to scope kinds.Bool x) (if_there (cell_right scope kinds.U64) x.store) h in
        both _ _ (applies kinds.Bool parts.0) (there (resolved_cell scope) (cell_right scope kinds.U64) (cell_right names kinds.U64) (cell_still kinds.U64) x.store parts.1)

    sum_still : (kind : Kind) → sum_right scope x kind ≡ true → sum_right names y kind ≡ true
    sum_still kind h =
        let p4 = and_parts _ (if_there (cell_right scope kind) x.store) h in
        let p3 = and_parts _ (target_right scope kind x.target) p4.0 in
        let p2 = and_parts _ (if_there (op_right scope kind) x.op) p3.0 in
        let p1 = and_parts (if_there (function_right scope (source_kinds scope x) kind) x.function) (if_there (val_fits scope kind) x.init) p2.0 in
        both _ _
        (both _ _
        (both _ _
        (both _ _
        (same_there (function_right scope (source_kinds scope x) kind) (function_right names (source_kinds names y) kind)
        (λ name right. ap (λ from. function_right names from kind name) sources ∙ function_still (source_kinds scope x) kind name right) x.function p1.0)
        (there (resolved_val scope) (val_fits scope kind) (val_fits names kind) (still_fits scope names kind) x.init p1.1))
        (same_there (op_right scope kind) (op_right names kind) (op_still kind) x.op p2.1))
        (target_still kind x.target target p3.1))
        (there (resolved_cell scope) (cell_right scope kind) (cell_right names kind) (cell_still kind) x.store p4.1)

    -- the kind of a function's values
    abbrev value_kind : Option Signature → Option Kind
    value_kind o = elim o [ None ↦ None | Some f ↦ Some f.kind ]

    by_function : (name : Name) (o : Option Signature) → function_of scope name ≡ o → has (sum_right scope x) (value_kind o) ≡ true → has (sum_right names y) (value_kind (function_of names name)) ≡ true
    by_function name None is h = absurd (false≢true h)
    by_function name (Some f) is h = ap (λ o. has (sum_right names y) (value_kind o)) (function_by name (meaning_of scope name) refl f is) ∙ sum_still f.kind h

    abbrev kind_by : Scope → call.Call → Option Name → Option Kind
    kind_by sc c o = elim o [ None ↦ kind_of_array sc c.first.array | Some name ↦ value_kind (function_of sc name) ]

    of_kind : (o : Option Name) → has (sum_right scope x) (kind_by scope x o) ≡ true → has (sum_right names y) (kind_by names y o) ≡ true
    of_kind None h = ap (has (sum_right names y)) (range_kind x.first first) ∙ same_has (sum_right scope x) (sum_right names y) sum_still (kind_of_array scope x.first.array) h
    of_kind (Some name) h = by_function name (function_of scope name) refl h

    to_target : (o : Option Range) → if_there (range_right scope) o ≡ true → if_there (λ r. has (λ kind. applies_to scope kind x) (kind_of_array scope r.array)) o ≡ true
        → if_there (λ r. has (λ kind. applies_to names kind y) (kind_of_array names r.array)) (option_map range o) ≡ true
    to_target None right h = refl
    to_target (Some r) right h =
        ap (has (λ kind. applies_to names kind y)) (range_kind r right) ∙ same_has (λ kind. applies_to scope kind x) (λ kind. applies_to names kind y) applies (kind_of_array scope r.array) h

    form_still : (form : CallForm) → form_right form scope x ≡ true → form_right form names y ≡ true
    form_still forms.ForEach h =
        ap (has (λ kind. applies_to names kind y)) (range_kind x.first first) ∙ same_has (λ kind. applies_to scope kind x) (λ kind. applies_to names kind y) applies (kind_of_array scope x.first.array) h
    form_still forms.Transform h = to_target x.target target h
    form_still forms.FindIf h = search_still h
    form_still forms.CountIf h = search_still h
    form_still forms.Reduce h = of_kind x.function h
    form_still forms.TransformReduce h = of_kind x.function h
    form_still forms.InclusiveScan h = of_kind x.function h
    form_still forms.ExclusiveScan h = of_kind x.function h
    form_still forms.TransformInclusiveScan h = of_kind x.function h
    form_still forms.TransformExclusiveScan h = of_kind x.function h

  -- a call that is right is right without constants
  pub call_still : (x : call.Call) → call_right scope x ≡ true → call_right names (resolved_call scope x) ≡ true
  call_still x h =
      let p3 = and_parts (range_right scope x.first && if_there (range_right scope) x.second && if_there (range_right scope) x.target) (form_right x.form scope x) h in
      let p2 = and_parts (range_right scope x.first && if_there (range_right scope) x.second) (if_there (range_right scope) x.target) p3.0 in
      let p1 = and_parts (range_right scope x.first) (if_there (range_right scope) x.second) p2.0 in
      both _ _
      (both _ _
      (both _ _ (range_still x.first p1.0) (there range (range_right scope) (range_right names) range_still x.second p1.1))
      (there range (range_right scope) (range_right names) range_still x.target p2.1))
      (form_still x p1.0 p1.1 p2.1 x.form p3.1)

  -- ---- clauses

  -- a clause of this kind
  abbrev reduces : Scope → ReduceClause → Kind → Bool
  reduces sc x kind = cell_right sc kind x.cell && op_right sc kind x.op && if_there (val_fits sc kind) x.identity

  reduces_still : (x : ReduceClause) (kind : Kind) → reduces scope x kind ≡ true → reduces names (resolved_reduce scope x) kind ≡ true
  reduces_still x kind h =
      let p2 = and_parts _ (if_there (val_fits scope kind) x.identity) h in
      let p1 = and_parts (cell_right scope kind x.cell) (op_right scope kind x.op) p2.0 in
      both _ _ (both _ _ (cell_still kind x.cell p1.0) (op_still kind x.op p1.1)) (there (resolved_val scope) (val_fits scope kind) (val_fits names kind) (still_fits scope names kind) x.identity p2.1)

  initial_still : (kind : Kind) (x : Initial) → initial_right scope kind x ≡ true → initial_right names kind (resolved_initial scope x) ≡ true
  initial_still kind (initials.Val x) h = still_fits scope names kind x h
  initial_still kind (initials.Cell x) h = cell_still kind x h

  induct_still : (x : InductClause) → induct_right scope x ≡ true → induct_right names (resolved_induct scope x) ≡ true
  induct_still x h =
      let p2 = and_parts _ (if_there (sum_is scope (holds x.kind)) x.step) h in
      let p1 = and_parts (is_number x.kind) (initial_right scope x.kind x.initial) p2.0 in
      both _ _ (both _ _ p1.0 (initial_still x.kind x.initial p1.1))
      (there (resolved_sum scope) (sum_is scope (holds x.kind)) (sum_is names (holds x.kind)) (still_holds scope names x.kind) x.step p2.1)

  pub clause_still : (x : Clause) → clause_right scope x ≡ true → clause_right names (resolved_clause scope x) ≡ true
  clause_still (clauses.Reduce x) h =
      ap (has (reduces names (resolved_reduce scope x))) (kind_tested x.cell.array (reduces scope x) h)
      ∙ same_has (reduces scope x) (reduces names (resolved_reduce scope x)) (reduces_still x) (kind_of_array scope x.cell.array) h
  clause_still (clauses.Induct x) h = induct_still x h

  pub clauses_still : (xs : List Clause) → list_all (clause_right scope) xs ≡ true → list_all (clause_right names) (map (resolved_clause scope) xs) ≡ true
  clauses_still [] h = refl
  clauses_still (x ∷ xs) h =
      let parts = and_parts (clause_right scope x) (list_all (clause_right scope) xs) h in
      both (clause_right names (resolved_clause scope x)) (list_all (clause_right names) (map (resolved_clause scope) xs)) (clause_still x parts.0) (clauses_still xs parts.1)

  -- it has the same local name of the same kind
  pub entries_same : (x : Clause) → clause_right scope x ≡ true → clause_entries names (resolved_clause scope x) ≡ clause_entries scope x
  entries_same (clauses.Reduce x) h = ap (λ o. elim o [ None ↦ [] | Some kind ↦ (x.view, View kind) ∷ [] ]) (kind_tested x.cell.array (reduces scope x) h)
  entries_same (clauses.Induct x) h = refl
