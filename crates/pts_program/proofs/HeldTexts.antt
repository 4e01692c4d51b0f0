-- The ranges and cells of a program's texts lie in their arrays.
use Rattle.std.proofs.Common.{◌≡◌, ℕ, ◌+◌, Bool, true, false, ◌&&◌, Option, Some, None, option_map, option_and_then, List, [], ◌∷◌, ◌++◌, length, map, ℤ, pos, refl, sym, ap, ◌∙◌, subst, arith}
use Rattle.std.specs.Prelude.{All, IfSome, flat_map, is_none, is_some, int_le, int_lt, ◌≤ℤ◌, ◌<ℤ◌, ◌+ℤ◌, ◌-ℤ◌, ◌*ℤ◌, ◌==◌, ◌||◌}
use Rattle.std.specs.List.{list_all}
use Rattle.std.proofs.lemmas.Bool.{and_parts, or_parts, false≢true}
use Rattle.std.proofs.lemmas.Int.{ints}
use Rattle.pts_types.specs.Arithmetic.{greatest_i64}
use Rattle.pts_types.specs.declared.value.Kind.{Kind}
use Rattle.pts_types.specs.declared.value.Kind.TheVariants as kinds
use Rattle.pts_tree.specs.Spelling.{has_parts, if_there}
use Rattle.pts_tree.specs.declared.sum.Range.{Range}
use Rattle.pts_tree.specs.declared.sum.Cell.{Cell}
use Rattle.pts_tree.specs.declared.expr.Expr.{Expr}
use Rattle.pts_tree.specs.declared.call.Call as call
use Rattle.pts_tree.specs.declared.call.CallForm.{CallForm}
use Rattle.pts_tree.specs.declared.call.CallForm.TheVariants as forms
use Rattle.pts_tree.specs.declared.loops.Clause.{Clause}
use Rattle.pts_tree.specs.declared.loops.Clause.TheVariants as clauses
use Rattle.pts_tree.specs.declared.loops.ReduceClause.{ReduceClause}
use Rattle.pts_tree.specs.declared.loops.Initial.{Initial}
use Rattle.pts_tree.specs.declared.loops.Initial.TheVariants as initials
use Rattle.pts_tree.specs.declared.script.Item.{Item}
use Rattle.pts_rules.specs.declared.meaning.Meaning.{Meaning}
use Rattle.pts_rules.specs.declared.meaning.Meaning.TheVariants.{Constant, Array, Function, Value, View}
use Rattle.pts_rules.specs.Kinds.{fits}
use Rattle.pts_rules.specs.Known.{Scope, meaning_of, as_array, has, is_place, kind_of_array, natural, number, same_kind, sum_is, val_fits}
use Rattle.pts_rules.specs.Indices.{Span, Along, cell_reach, clause_reach, leaves, length_of, range_reach, reach_of, reaches}
use Rattle.pts_rules.specs.Mistyped.{cell_right, clause_right, form_right, initial_right, op_right, range_right, sum_right}
use Rattle.pts_rules.specs.Parts.{Name, Simple, Throw, Assign, Call, Loop, statements}
use Rattle.pts_rules.specs.Scopes.{known}
use Rattle.pts_rules.specs.Steps.{is_backward}
use Rattle.pts_constants.specs.Resolved.{resolved_call, resolved_cell, resolved_clause, resolved_initial, resolved_range, resolved_sum}
use Rattle.pts_constants.specs.Blocks.{blocks_of}
use Rattle.pts_constants.specs.Texts.{texts_of}
use Rattle.pts_constants.specs.declared.infos.BlockInfo.{BlockInfo}
use Rattle.pts_constants.specs.declared.texts.CallText.{CallText}
use Rattle.pts_points.proofs.Each.{Each}
use Rattle.pts_points.proofs.Each as each
use Rattle.pts_points.proofs.Interiors.{Stays, each_stays}
use Rattle.pts_points.proofs.Ranges.{in_array}
use Rattle.pts_program.specs.declared.info.ArrayInfo.{ArrayInfo}
use Rattle.pts_program.specs.declared.lists.Lists.{Lists}
use Rattle.pts_program.specs.Holdings.{HoldsCall, HoldsCell, HoldsClause, HoldsInitial, HoldsRange, HoldsStatement}
use Rattle.pts_program.specs.Lists.{arrays_of, no_lists, IsProgram}
use Rattle.pts_program.specs.Namings.{HoldsIn, HoldsOf, array_named, as_statement}
use Rattle.pts_program.proofs.ExactSums.{exact_place, tested}
use Rattle.pts_program.proofs.InnerStatements.{Without, blocks_hold, texts_hold}
use Rattle.pts_program.proofs.ItemTurns.{IsTurn, by_items}
use Rattle.pts_program.proofs.Replaced.{resolved_simple}
use Rattle.pts_program.proofs.RightTexts.{IsReady, item_ready}
use Rattle.pts_program.proofs.Shown.{AreShown, IsArray, nothing_shown, shown_turn, still_named}

-- ---- numbers

not_less : (a b : ℤ) → int_lt b a ≡ false → a ≤ℤ b
not_less a b h = grind (arith, ints, h)

from_zero : (z : ℤ) → is_place z ≡ true → pos 0 ≤ℤ z
from_zero z h = let parts = and_parts (int_le (pos 0) z) (int_le z greatest_i64) h in at z parts.0
  where
    at : (z : ℤ) → int_le (pos 0) z ≡ true → pos 0 ≤ℤ z
    at z h = grind (arith, ints, h)

span_end : (low high size : ℤ) → ((p : ℕ) → leaves p (Span low high size) ≡ false) → high ≤ℤ size
span_end low high size h = let e : (int_lt size high && natural (size -ℤ low) == natural (size -ℤ low)) ≡ false = h (natural (size -ℤ low)) in grind (arith, e)

one_cell : (z size : ℤ) → ((p : ℕ) → leaves p (Along (record { c = pos 0; d = z; n = 1 }) size) ≡ false) → z <ℤ size
one_cell z size h =
    let at = (in_array (record { c = pos 0; d = z; n = 1 }) size 0 (h 0) (omega arith)).1 in
    same z size at
  where
    same : (z size : ℤ) → (pos 0 *ℤ pos 0 +ℤ z) <ℤ size → z <ℤ size
    same z size h = grind (arith, ints, h)

module _ (scope : Scope) (arrays : List ArrayInfo) (shown : (name : Name) (kind : Kind) (size : ℤ) → meaning_of scope name ≡ Some (Array kind size) → IsArray arrays name kind size) where
  -- ---- arrays

  -- an array of this name, as long as its name says
  record IsThere (name : Name) : Type 0 where
    pub array : ArrayInfo
    pub named : array_named arrays name ≡ Some array
    pub sizes : pos (length array.cells) ≡ length_of scope name

  there_by : (name : Name) (o : Option Meaning) → meaning_of scope name ≡ o → is_some (option_map (λ x. x.0) (option_and_then as_array o)) ≡ true → IsThere name
  there_by name None is some = absurd (false≢true some)
  there_by name (Some (Constant z)) is some = absurd (false≢true some)
  there_by name (Some (Array kind size)) is some =
      let a = shown name kind size is in
      record { array = a.array; named = a.named; sizes = a.sizes ∙ ap (λ m. elim (option_and_then as_array m) [ None ↦ pos 0 | Some x ↦ x.1 ]) (sym is) }
  there_by name (Some (Function f)) is some = absurd (false≢true some)
  there_by name (Some (Value kind)) is some = absurd (false≢true some)
  there_by name (Some (View kind)) is some = absurd (false≢true some)

  there : (name : Name) → is_some (kind_of_array scope name) ≡ true → IsThere name
  there name some = there_by name (meaning_of scope name) refl some

  -- ---- ranges and cells

  range_held : (x : Range) → range_right scope x ≡ true → is_backward scope x ≡ false → Each Stays (range_reach scope x) → HoldsRange arrays (resolved_range scope x)
  range_held x right forward stays =
      let sides = and_parts (is_some (kind_of_array scope x.array) && sum_is scope is_place x.low) (sum_is scope is_place x.high) right in
      let front = and_parts (is_some (kind_of_array scope x.array)) (sum_is scope is_place x.low) sides.0 in
      let a = there x.array front.0 in
      let low = sym (exact_place scope [] x.low front.1) in
      let high = sym (exact_place scope [] x.high sides.1) in
      record {
        array = a.array;
        named = a.named;
        low = subst (λ z. pos 0 ≤ℤ z) low (from_zero (number scope x.low) (tested scope [] is_place x.low front.1));
        forward = subst (λ z. z ≤ℤ number [] (resolved_sum scope x.high)) low (subst (λ z. number scope x.low ≤ℤ z) high (not_less (number scope x.low) (number scope x.high) forward));
        high =
            subst (λ z. z ≤ℤ pos (length a.array.cells)) high
            (subst (λ z. number scope x.high ≤ℤ z) (sym a.sizes) (span_end (number scope x.low) (number scope x.high) (length_of scope x.array) stays.0));
      }

  -- an array, and an index that is a place
  abbrev is_cell : Cell → Bool
  is_cell x = is_some (kind_of_array scope x.array) && sum_is scope is_place x.index

  cell_held : (x : Cell) → is_cell x ≡ true → Each Stays (cell_reach scope x) → HoldsCell arrays (resolved_cell scope x)
  cell_held x right stays =
      let parts = and_parts (is_some (kind_of_array scope x.array)) (sum_is scope is_place x.index) right in
      let a = there x.array parts.0 in
      let index = sym (exact_place scope [] x.index parts.1) in
      record {
        array = a.array;
        named = a.named;
        low = subst (λ z. pos 0 ≤ℤ z) index (from_zero (number scope x.index) (tested scope [] is_place x.index parts.1));
        high =
            subst (λ z. z <ℤ pos (length a.array.cells)) index
            (subst (λ z. number scope x.index <ℤ z) (sym a.sizes) (one_cell (number scope x.index) (length_of scope x.array) stays.0));
      }

  some_of : {A : Type 0} (test : A → Bool) (o : Option A) → has test o ≡ true → is_some o ≡ true
  some_of test None h = h
  some_of test (Some x) h = refl

  right_cell : (kind : Kind) (x : Cell) → cell_right scope kind x ≡ true → is_cell x ≡ true
  right_cell kind x h =
      let parts = and_parts (has (same_kind kind) (kind_of_array scope x.array)) (sum_is scope is_place x.index) h in
      ap (λ b. b && sum_is scope is_place x.index) (some_of (same_kind kind) (kind_of_array scope x.array) parts.0) ∙ parts.1

  right_store : (kind : Kind) (o : Option Cell) → if_there (cell_right scope kind) o ≡ true → if_there is_cell o ≡ true
  right_store kind None h = refl
  right_store kind (Some x) h = right_cell kind x h

  no_store : (o : Option Cell) → is_none o ≡ true → if_there is_cell o ≡ true
  no_store None h = refl
  no_store (Some x) h = absurd (false≢true h)

  sum_store : (x : call.Call) (o : Option Kind) → has (sum_right scope x) o ≡ true → if_there is_cell x.store ≡ true
  sum_store x None h = absurd (false≢true h)
  sum_store x (Some kind) h = right_store kind x.store (and_parts _ _ h).1

  store_right : (x : call.Call) (form : CallForm) → has_parts form x ≡ true → form_right form scope x ≡ true → if_there is_cell x.store ≡ true
  store_right x forms.ForEach parts h = no_store x.store (and_parts _ _ parts).1
  store_right x forms.Transform parts h = no_store x.store (and_parts _ _ parts).1
  store_right x forms.FindIf parts h = right_store kinds.U64 x.store (and_parts _ _ h).1
  store_right x forms.CountIf parts h = right_store kinds.U64 x.store (and_parts _ _ h).1
  store_right x forms.Reduce parts h = sum_store x _ h
  store_right x forms.TransformReduce parts h = sum_store x _ h
  store_right x forms.InclusiveScan parts h = sum_store x _ h
  store_right x forms.ExclusiveScan parts h = sum_store x _ h
  store_right x forms.TransformInclusiveScan parts h = sum_store x _ h
  store_right x forms.TransformExclusiveScan parts h = sum_store x _ h

  -- ---- calls

  option_range : (o : Option Range) → if_there (range_right scope) o ≡ true → has (is_backward scope) o ≡ false → Each Stays (reach_of (range_reach scope) o)
      → IfSome (option_map (resolved_range scope) o) (HoldsRange arrays)
  option_range None right forward stays = tt
  option_range (Some x) right forward stays = range_held x right forward stays

  option_cell : (o : Option Cell) → if_there is_cell o ≡ true → Each Stays (reach_of (cell_reach scope) o) → IfSome (option_map (resolved_cell scope) o) (HoldsCell arrays)
  option_cell None right stays = tt
  option_cell (Some x) right stays = cell_held x right stays

  call_held : (x : call.Call) → IsReady scope (Call x) → HoldsCall arrays (resolved_call scope x)
  call_held x h =
      let p3 = and_parts (range_right scope x.first && if_there (range_right scope) x.second && if_there (range_right scope) x.target) (form_right x.form scope x) h.sound.right in
      let p2 = and_parts (range_right scope x.first && if_there (range_right scope) x.second) (if_there (range_right scope) x.target) p3.0 in
      let p1 = and_parts (range_right scope x.first) (if_there (range_right scope) x.second) p2.0 in
      let f2 = or_parts (is_backward scope x.first || has (is_backward scope) x.second) (has (is_backward scope) x.target) h.sound.forward in
      let f1 = or_parts (is_backward scope x.first) (has (is_backward scope) x.second) f2.0 in
      let all = each_stays (reaches scope (Call x)) h.sound.stays in
      let first = range_reach scope x.first in
      let second = reach_of (range_reach scope) x.second in
      let target = reach_of (range_reach scope) x.target in
      let store = reach_of (cell_reach scope) x.store in
      let s3 : Each Stays (first ++ second ++ target) = each.front Stays (first ++ second ++ target) store all in
      let s2 : Each Stays (first ++ second) = each.front Stays (first ++ second) target s3 in
      record {
        first = range_held x.first p1.0 f1.0 (each.front Stays first second s2);
        second = option_range x.second p1.1 f1.1 (each.back Stays first second s2);
        target = option_range x.target p2.1 f2.1 (each.back Stays (first ++ second) target s3);
        store = option_cell x.store (store_right x x.form (and_parts _ _ h.allowed).0 p3.1) (each.back Stays (first ++ second ++ target) store all);
      }

  -- ---- clauses

  -- what a reduction asks of its kind
  abbrev reduces : ReduceClause → Kind → Bool
  reduces x kind = cell_right scope kind x.cell && op_right scope kind x.op && if_there (val_fits scope kind) x.identity

  clause_held : (x : Clause) → clause_right scope x ≡ true → Each Stays (clause_reach scope x) → HoldsClause arrays (resolved_clause scope x)
  clause_held (clauses.Reduce x) right stays = cell_held x.cell (of_reduce (kind_of_array scope x.cell.array) right) stays
    where
      of_reduce : (o : Option Kind) → has (λ kind. reduces x kind) o ≡ true → is_cell x.cell ≡ true
      of_reduce None h = absurd (false≢true h)
      of_reduce (Some kind) h = right_cell kind x.cell (and_parts _ _ (and_parts _ _ h).0).0
  clause_held (clauses.Induct x) right stays = by_initial x.initial (and_parts _ _ (and_parts _ _ right).0).1 stays
    where
      by_initial : (y : Initial) → initial_right scope x.kind y ≡ true → Each Stays (elim y [ initials.Val z ↦ [] | initials.Cell z ↦ cell_reach scope z ]) → HoldsInitial arrays (resolved_initial scope y)
      by_initial (initials.Val y) right stays = tt
      by_initial (initials.Cell y) right stays = cell_held y (right_cell x.kind y right) stays

  clauses_held : (xs : List Clause) → list_all (clause_right scope) xs ≡ true → Each Stays (flat_map (clause_reach scope) xs) → Each (HoldsClause arrays) (map (resolved_clause scope) xs)
  clauses_held [] right stays = tt
  clauses_held (x ∷ xs) right stays =
      let parts = and_parts (clause_right scope x) (list_all (clause_right scope) xs) right in (
        clause_held x parts.0 (each.front Stays (clause_reach scope x) (flat_map (clause_reach scope) xs) stays),
        clauses_held xs parts.1 (each.back Stays (clause_reach scope x) (flat_map (clause_reach scope) xs) stays),
      )

  -- ---- statements

  assign_held : (at : Cell) (x : Expr) (o : Option Kind) → has (λ kind. cell_right scope kind at && fits true scope kind x) o ≡ true → is_cell at ≡ true
  assign_held at x None h = absurd (false≢true h)
  assign_held at x (Some kind) h = right_cell kind at (and_parts _ _ h).0

  statement_held : (s : Simple) → IsReady scope s → HoldsStatement arrays (resolved_simple scope s)
  statement_held (Throw n) h = tt
  statement_held (Assign at x) h =
      cell_held at (assign_held at x (kind_of_array scope at.array) h.sound.right) (each.front Stays (cell_reach scope at) _ (each_stays (reaches scope (Assign at x)) h.sound.stays))
  statement_held (Call x) h = call_held x h
  statement_held (Loop x) h =
      let right = (and_parts _ (list_all (clause_right scope) x.clauses) (and_parts _ _ h.sound.right).0).1 in
      let all = each_stays (reaches scope (Loop x)) h.sound.stays in
      each.all_of (HoldsClause arrays) (map (resolved_clause scope) x.clauses) (clauses_held x.clauses right (each.front Stays (flat_map (clause_reach scope) x.clauses) _ all))

  all_held : (ss : List Simple) → Each (IsReady scope) ss → Each (Without (HoldsStatement arrays) scope) ss
  all_held ss h = each.weaker (IsReady scope) (Without (HoldsStatement arrays) scope) statement_held ss h

-- ---- more arrays

module _ (arrays more : List ArrayInfo) where
  range_stays : (x : Range) → HoldsRange arrays x → HoldsRange (arrays ++ more) x
  range_stays x h = record { array = h.array; named = still_named arrays more x.array h.array h.named; low = h.low; forward = h.forward; high = h.high }

  cell_stays : (x : Cell) → HoldsCell arrays x → HoldsCell (arrays ++ more) x
  cell_stays x h = record { array = h.array; named = still_named arrays more x.array h.array h.named; low = h.low; high = h.high }

  if_stays : {A : Type 0} (P Q : A → Type 0) → ((x : A) → P x → Q x) → (o : Option A) → IfSome o P → IfSome o Q
  if_stays P Q keeps None h = h
  if_stays P Q keeps (Some x) h = keeps x h

  clause_stays : (x : Clause) → HoldsClause arrays x → HoldsClause (arrays ++ more) x
  clause_stays (clauses.Reduce x) h = cell_stays x.cell h
  clause_stays (clauses.Induct x) h = by_initial x.initial h
    where
      by_initial : (y : Initial) → HoldsInitial arrays y → HoldsInitial (arrays ++ more) y
      by_initial (initials.Val y) h = h
      by_initial (initials.Cell y) h = cell_stays y h

  statement_stays : (x : Simple) → HoldsStatement arrays x → HoldsStatement (arrays ++ more) x
  statement_stays (Throw n) h = tt
  statement_stays (Assign at x) h = cell_stays at h
  statement_stays (Call x) h = record {
    first = range_stays x.first h.first;
    second = if_stays (HoldsRange arrays) (HoldsRange (arrays ++ more)) range_stays x.second h.second;
    target = if_stays (HoldsRange arrays) (HoldsRange (arrays ++ more)) range_stays x.target h.target;
    store = if_stays (HoldsCell arrays) (HoldsCell (arrays ++ more)) cell_stays x.store h.store;
  }
  statement_stays (Loop x) h = λ k d within. clause_stays _ (h k d within)

  text_stays : (x : CallText) → HoldsOf (HoldsStatement arrays) x → HoldsOf (HoldsStatement (arrays ++ more)) x
  text_stays x h = statement_stays (as_statement x) h

  block_stays : (x : BlockInfo) → HoldsIn (HoldsStatement arrays) x → HoldsIn (HoldsStatement (arrays ++ more)) x
  block_stays x h = λ k d within. statement_stays _ (h k d within)

-- ---- all items

record AreHeld (before : List Item) (lists : Lists) : Type 0 where
  pub shown : AreShown (known before) lists.arrays lists.functions
  pub texts : Each (HoldsOf (HoldsStatement lists.arrays)) lists.texts
  pub blocks : Each (HoldsIn (HoldsStatement lists.arrays)) lists.blocks

held_turn : IsTurn AreHeld
held_turn before x lists keeps written h =
    let scope = known before in
    let more = arrays_of scope x in
    let P = HoldsStatement lists.arrays in
    let Q = HoldsStatement (lists.arrays ++ more) in
    let own = all_held scope lists.arrays h.shown.arrays_shown (statements x) (item_ready before x keeps written.allowed) in
    record {
      shown = shown_turn before x lists keeps written h.shown;
      texts =
          each.weaker (HoldsOf P) (HoldsOf Q) (text_stays lists.arrays more) (lists.texts ++ texts_of scope x)
          (each.both (HoldsOf P) lists.texts (texts_of scope x) h.texts (texts_hold P scope (statements x) own));
      blocks =
          each.weaker (HoldsIn P) (HoldsIn Q) (block_stays lists.arrays more) (lists.blocks ++ blocks_of scope (length before + 1) x)
          (each.both (HoldsIn P) lists.blocks (blocks_of scope (length before + 1) x) h.blocks (blocks_hold P scope (length before + 1) x own));
    }

nothing_held : AreHeld [] no_lists
nothing_held = record { shown = nothing_shown; texts = tt; blocks = tt }

pub texts_in_arrays : (lists : Lists) → IsProgram lists → All (HoldsOf (HoldsStatement lists.arrays)) lists.texts
texts_in_arrays lists h = each.all_of (HoldsOf (HoldsStatement lists.arrays)) lists.texts (by_items AreHeld held_turn nothing_held lists h).texts

pub blocks_in_arrays : (lists : Lists) → IsProgram lists → All (HoldsIn (HoldsStatement lists.arrays)) lists.blocks
blocks_in_arrays lists h = each.all_of (HoldsIn (HoldsStatement lists.arrays)) lists.blocks (by_items AreHeld held_turn nothing_held lists h).blocks
