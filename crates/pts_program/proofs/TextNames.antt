-- The names of a program's texts are local ones or those of arrays and functions before them.
use Rattle.std.proofs.Common.{◌≡◌, ℕ, ◌+◌, ◌≤◌, Bool, true, false, ◌&&◌, if◌then◌else◌, Option, Some, None, List, [], ◌∷◌, ◌++◌, fold, length, map, option_map, option_and_then, bytes_eq, take, refl, sym, ap, ◌∙◌, subst, arith}
use Rattle.std.specs.Prelude.{All, flat_map, is_none, is_some, option_to_list, ◌||◌}
use Rattle.std.specs.List.{list_all, list_any}
use Rattle.std.proofs.lemmas.Bool.{and_parts, or_parts, false≢true}
use Rattle.std.proofs.lemmas.List.{append_assoc, length-append, take-append-le}
use Rattle.std.proofs.Math.Seq.{take-append_seam}
use Rattle.std.proofs.lemmas.Option.{none-some}
use Rattle.std.proofs.lemmas.Slice.Eq.{bytes_eq-Decides}
use Rattle.pts_types.specs.declared.value.Kind.{Kind}
use Rattle.pts_types.specs.declared.value.Kind.TheVariants as kinds
use Rattle.pts_tree.specs.Spelling.{has_parts, if_there}
use Rattle.pts_tree.specs.declared.sum.Sum.{Sum}
use Rattle.pts_tree.specs.declared.sum.Val.{Val}
use Rattle.pts_tree.specs.declared.sum.Val.TheVariants as vals
use Rattle.pts_tree.specs.declared.sum.Range.{Range}
use Rattle.pts_tree.specs.declared.sum.Cell.{Cell}
use Rattle.pts_tree.specs.declared.expr.Expr.{Expr}
use Rattle.pts_tree.specs.declared.call.Op.{Op}
use Rattle.pts_tree.specs.declared.call.Op.TheVariants as op_variants
use Rattle.pts_tree.specs.declared.call.Call as call
use Rattle.pts_tree.specs.declared.call.CallForm.{CallForm}
use Rattle.pts_tree.specs.declared.call.CallForm.TheVariants as forms
use Rattle.pts_tree.specs.declared.loops.BodyStmt.{BodyStmt}
use Rattle.pts_tree.specs.declared.loops.Clause.{Clause}
use Rattle.pts_tree.specs.declared.loops.Clause.TheVariants as clauses
use Rattle.pts_tree.specs.declared.loops.ReduceClause.{ReduceClause}
use Rattle.pts_tree.specs.declared.loops.Initial.{Initial}
use Rattle.pts_tree.specs.declared.loops.Initial.TheVariants as initials
use Rattle.pts_tree.specs.declared.loops.Loop as loops
use Rattle.pts_tree.specs.declared.script.Item.{Item}
use Rattle.pts_rules.specs.declared.meaning.Meaning.{Meaning}
use Rattle.pts_rules.specs.declared.meaning.Meaning.TheVariants.{Constant, Array, Function, Value, View}
use Rattle.pts_rules.specs.Indices.{has_not_affine, index_not_affine, places}
use Rattle.pts_rules.specs.Kinds.{fits}
use Rattle.pts_rules.specs.Known.{Scope, as_array, as_constant, as_function, function_of, has, holds, is_place, kind_of_array, meaning_of, same_kind, sum_is, val_fits}
use Rattle.pts_rules.specs.Mistyped.{body_scope, cell_right, checked_stmt, all_right, clause_entries, clause_right, form_right, function_right, initial_right, op_right, range_right, source_kinds, sum_right, target_right}
use Rattle.pts_rules.specs.Names.{clash, has_repeat, meet, names_in}
use Rattle.pts_rules.specs.Parts.{Name, Simple, Throw, Assign, Call, Loop, call_names, cell_names, clause_name, clause_names, expr_names, head_locals, initial_names, is_among, lets, loop_locals, names_of, op_names, range_names, statement_locals, statements, sum_names, val_names}
use Rattle.pts_rules.specs.Scopes.{known}
use Rattle.pts_code.specs.declared.function.FunctionInfo.{FunctionInfo}
use Rattle.pts_constants.specs.Resolved.{resolved_call, resolved_cell, resolved_clause, resolved_expr, resolved_initial, resolved_loop, resolved_range, resolved_stmt, resolved_sum, resolved_val}
use Rattle.pts_constants.specs.Blocks.{blocks_of}
use Rattle.pts_constants.specs.Texts.{texts_of}
use Rattle.pts_points.proofs.Each.{Each}
use Rattle.pts_points.proofs.Each as each
use Rattle.pts_program.specs.declared.info.ArrayInfo.{ArrayInfo}
use Rattle.pts_program.specs.declared.lists.Lists.{Lists}
use Rattle.pts_program.specs.Lists.{arrays_of, functions_of, no_lists, with_item, IsProgram}
use Rattle.pts_program.specs.Namings.{HoldsIn, HoldsOf, IsNamed, all_names, array_named, array_names, as_statement, function_names, loop_text_names, simple_names}
use Rattle.pts_program.proofs.BodyNames.{body_names, owns_more}
use Rattle.pts_program.proofs.IndexNames.{AreOf}
use Rattle.pts_program.proofs.InnerStatements.{Without, blocks_hold, texts_hold}
use Rattle.pts_program.proofs.ItemTurns.{IsTurn, by_items}
use Rattle.pts_program.proofs.Replaced.{resolved_simple}
use Rattle.pts_program.proofs.KeptBodies.{value_local, view_local}
use Rattle.pts_program.proofs.NamesApart.{apart_from, in_back, in_front, in_neither, meets_not, neither_in, unnamed}
use Rattle.pts_program.proofs.RightTexts.{IsReady, item_ready}
use Rattle.pts_program.proofs.SameLocals.{heads_same, locals_same}
use Rattle.pts_program.proofs.Shown.{AreShown, nothing_shown, shown_turn}
use Rattle.pts_program.proofs.Truths.{not_true}
use Rattle.pts_program.proofs.UsedNames.{Owns, fitting_names}

-- ---- names among others

-- each name is among all
all_among : (front xs : List Name) → AreOf (front ++ xs) xs
all_among front [] = tt
all_among front (x ∷ xs) = (
  in_back front (x ∷ xs) x (ap (λ b. b || is_among x xs) ((bytes_eq-Decides x x).1 refl)),
  each.weaker (λ name. is_among name ((front ++ x ∷ []) ++ xs) ≡ true) (λ name. is_among name (front ++ x ∷ xs) ≡ true) (λ name h. ap (is_among name) (sym (append_assoc front (x ∷ []) xs)) ∙ h) xs (all_among (front ++ x ∷ []) xs),
)

-- an array that is found has its name among theirs
named_among : (arrays : List ArrayInfo) (name : Name) (a : ArrayInfo) → array_named arrays name ≡ Some a → is_among name (array_names arrays) ≡ true
named_among [] name a is = absurd (none-some a is)
named_among (x ∷ arrays) name a is =
    elim (bytes_eq name x.name) as (λ b. (if b then Some x else array_named arrays name) ≡ Some a → (b || is_among name (array_names arrays)) ≡ true) [
      | true ↦ λ found. refl
      | false ↦ λ found. named_among arrays name a found
    ] is

abbrev globals : List ArrayInfo → List FunctionInfo → List Name
globals arrays functions = array_names arrays ++ function_names functions

module _ (scope : Scope) (arrays : List ArrayInfo) (functions : List FunctionInfo) (shown : AreShown scope arrays functions) (locals : List Name) where
  abbrev ours : List Name
  ours = globals arrays functions ++ locals

  abbrev both : (xs ys : List Name) → AreOf ours xs → AreOf ours ys → AreOf ours (xs ++ ys)
  both xs ys = each.both (λ name. is_among name ours ≡ true) xs ys

  owns : Owns scope scope ours
  owns = record {
    constants = λ name z is. ap (option_and_then as_constant) is;
    values = λ name kind is. absurd (shown.no_values name kind is);
    views = λ name kind is. absurd (shown.no_views name kind is);
    functions = λ name f is. in_front (globals arrays functions) locals name (in_back (array_names arrays) (function_names functions) name (shown.functions_listed name f is));
    arrays = λ name kind size is.
        let a = shown.arrays_shown name kind size is in
        in_front (globals arrays functions) locals name (in_front (array_names arrays) (function_names functions) name (named_among arrays name a.array a.named));
  }

  -- ---- arrays and functions

  array_by : (name : Name) (o : Option Meaning) → meaning_of scope name ≡ o → is_some (option_map (λ x. x.0) (option_and_then as_array o)) ≡ true → is_among name ours ≡ true
  array_by name None is h = absurd (false≢true h)
  array_by name (Some (Constant z)) is h = absurd (false≢true h)
  array_by name (Some (Array kind size)) is h = owns.arrays name kind size is
  array_by name (Some (Function f)) is h = absurd (false≢true h)
  array_by name (Some (Value kind)) is h = absurd (false≢true h)
  array_by name (Some (View kind)) is h = absurd (false≢true h)

  array_ours : (name : Name) → is_some (kind_of_array scope name) ≡ true → is_among name ours ≡ true
  array_ours name h = array_by name (meaning_of scope name) refl h

  some_of : {A : Type 0} (test : A → Bool) (o : Option A) → has test o ≡ true → is_some o ≡ true
  some_of test None h = h
  some_of test (Some x) h = refl

  function_by : (name : Name) (o : Option Meaning) → meaning_of scope name ≡ o → is_some (option_and_then as_function o) ≡ true → is_among name ours ≡ true
  function_by name None is h = absurd (false≢true h)
  function_by name (Some (Constant z)) is h = absurd (false≢true h)
  function_by name (Some (Array kind size)) is h = absurd (false≢true h)
  function_by name (Some (Function f)) is h = owns.functions name f is
  function_by name (Some (Value kind)) is h = absurd (false≢true h)
  function_by name (Some (View kind)) is h = absurd (false≢true h)

  function_ours : (from : List Kind) (to : Kind) (name : Name) → function_right scope from to name ≡ true → is_among name ours ≡ true
  function_ours from to name h = function_by name (meaning_of scope name) refl (some_of _ (function_of scope name) h)

  -- ---- parts of calls

  range_ours : (x : Range) → range_right scope x ≡ true → AreOf ours (range_names (resolved_range scope x))
  range_ours x h =
      let sides = and_parts (is_some (kind_of_array scope x.array) && sum_is scope is_place x.low) (sum_is scope is_place x.high) h in
      (array_ours x.array (and_parts (is_some (kind_of_array scope x.array)) (sum_is scope is_place x.low) sides.0).0, tt)

  cell_ours : (kind : Kind) (x : Cell) → cell_right scope kind x ≡ true → AreOf ours (cell_names (resolved_cell scope x))
  cell_ours kind x h =
      (array_ours x.array (some_of (same_kind kind) (kind_of_array scope x.array) (and_parts (has (same_kind kind) (kind_of_array scope x.array)) (sum_is scope is_place x.index) h).0), tt)

  val_ours : (x : Val) → AreOf ours (val_names (resolved_val scope x))
  val_ours (vals.Sum x) = tt
  val_ours vals.True = tt
  val_ours vals.False = tt

  op_ours : (kind : Kind) (x : Op) → op_right scope kind x ≡ true → AreOf ours (op_names x)
  op_ours kind (op_variants.Table op) h = tt
  op_ours kind (op_variants.Name name) h = (function_ours (kind ∷ kind ∷ []) kind name h, tt)

  -- of a part, where it is there
  part_ours : {A : Type 0} (names : A → List Name) (f : A → A) (test : A → Bool) → ((x : A) → test x ≡ true → AreOf ours (names (f x))) → (o : Option A) → if_there test o ≡ true → AreOf ours (names_of names (option_map f o))
  part_ours names f test h None t = tt
  part_ours names f test h (Some x) t = h x t

  same_part : {A : Type 0} (names : A → List Name) (test : A → Bool) → ((x : A) → test x ≡ true → AreOf ours (names x)) → (o : Option A) → if_there test o ≡ true → AreOf ours (names_of names o)
  same_part names test h None t = tt
  same_part names test h (Some x) t = h x t

  any_part : (o : Option Val) → AreOf ours (names_of val_names (option_map (resolved_val scope) o))
  any_part None = tt
  any_part (Some x) = val_ours x

  absent : {A : Type 0} (names : A → List Name) (o : Option A) → is_none o ≡ true → AreOf ours (names_of names o)
  absent names None h = tt
  absent names (Some x) h = absurd (false≢true h)

  absent_cell : (o : Option Cell) → is_none o ≡ true → AreOf ours (names_of cell_names (option_map (resolved_cell scope) o))
  absent_cell None h = tt
  absent_cell (Some x) h = absurd (false≢true h)

  applied : (from : List Kind) (to : Kind) (o : Option Name) → has (function_right scope from to) o ≡ true → AreOf ours (option_to_list o)
  applied from to None h = absurd (false≢true h)
  applied from to (Some name) h = (function_ours from to name h, tt)

  maybe_applied : (from : List Kind) (to : Kind) (o : Option Name) → if_there (function_right scope from to) o ≡ true → AreOf ours (option_to_list o)
  maybe_applied from to None h = tt
  maybe_applied from to (Some name) h = (function_ours from to name h, tt)

  -- ---- calls

  -- the operation, the function and the cell of the answer
  record Rest (x : call.Call) : Type 0 where
    pub op : AreOf ours (names_of op_names x.op)
    pub function : AreOf ours (option_to_list x.function)
    pub store : AreOf ours (names_of cell_names (option_map (resolved_cell scope) x.store))

  store_ours : (kind : Kind) (o : Option Cell) → if_there (cell_right scope kind) o ≡ true → AreOf ours (names_of cell_names (option_map (resolved_cell scope) o))
  store_ours kind o h = part_ours cell_names (resolved_cell scope) (cell_right scope kind) (cell_ours kind) o h

  sum_rest : (x : call.Call) (o : Option Kind) → has (sum_right scope x) o ≡ true → Rest x
  sum_rest x None h = absurd (false≢true h)
  sum_rest x (Some kind) h =
      let p4 = and_parts _ (if_there (cell_right scope kind) x.store) h in
      let p3 = and_parts _ (target_right scope kind x.target) p4.0 in
      let p2 = and_parts _ (if_there (op_right scope kind) x.op) p3.0 in
      let p1 = and_parts (if_there (function_right scope (source_kinds scope x) kind) x.function) (if_there (val_fits scope kind) x.init) p2.0 in
      record {
        op = same_part op_names (op_right scope kind) (op_ours kind) x.op p2.1;
        function = maybe_applied (source_kinds scope x) kind x.function p1.0;
        store = store_ours kind x.store p4.1;
      }

  by_kind : (o : Option Kind) (test : Kind → Bool) (P : Type 0) → has test o ≡ true → ((kind : Kind) → test kind ≡ true → P) → P
  by_kind None test P h f = absurd (false≢true h)
  by_kind (Some kind) test P h f = f kind h

  by_target : (o : Option Range) (test : Range → Bool) (P : Type 0) → is_some o ≡ true → if_there test o ≡ true → ((x : Range) → test x ≡ true → P) → P
  by_target None test P some h f = absurd (false≢true some)
  by_target (Some x) test P some h f = f x h

  rest_ours : (x : call.Call) (form : CallForm) → has_parts form x ≡ true → form_right form scope x ≡ true → Rest x
  rest_ours x forms.ForEach parts h =
      let p5 = and_parts _ (is_none x.store) parts in
      let p4 = and_parts _ (is_some x.function) p5.0 in
      record {
        op = absent op_names x.op (and_parts _ (is_none x.op) p4.0).1;
        function = by_kind (kind_of_array scope x.first.array) _ (AreOf ours (option_to_list x.function)) h (λ kind g. applied (source_kinds scope x) kind x.function g);
        store = absent_cell x.store p5.1;
      }
  rest_ours x forms.Transform parts h =
      let p5 = and_parts _ (is_none x.store) parts in
      let p4 = and_parts _ (is_some x.function) p5.0 in
      let p3 = and_parts _ (is_none x.op) p4.0 in
      let p2 = and_parts _ (is_none x.init) p3.0 in
      record {
        op = absent op_names x.op p3.1;
        function = by_target x.target _ (AreOf ours (option_to_list x.function)) p2.0 h
            (λ y g. by_kind (kind_of_array scope y.array) _ (AreOf ours (option_to_list x.function)) g (λ kind k. applied (source_kinds scope x) kind x.function k));
        store = absent_cell x.store p5.1;
      }
  rest_ours x forms.FindIf parts h =
      let p4 = and_parts _ (is_some x.function) parts in
      let own = and_parts _ _ h in
      record { op = absent op_names x.op (and_parts _ (is_none x.op) p4.0).1; function = applied (source_kinds scope x) kinds.Bool x.function own.0; store = store_ours kinds.U64 x.store own.1 }
  rest_ours x forms.CountIf parts h =
      let p4 = and_parts _ (is_some x.function) parts in
      let own = and_parts _ _ h in
      record { op = absent op_names x.op (and_parts _ (is_none x.op) p4.0).1; function = applied (source_kinds scope x) kinds.Bool x.function own.0; store = store_ours kinds.U64 x.store own.1 }
  rest_ours x forms.Reduce parts h = sum_rest x _ h
  rest_ours x forms.TransformReduce parts h = sum_rest x _ h
  rest_ours x forms.InclusiveScan parts h = sum_rest x _ h
  rest_ours x forms.ExclusiveScan parts h = sum_rest x _ h
  rest_ours x forms.TransformInclusiveScan parts h = sum_rest x _ h
  rest_ours x forms.TransformExclusiveScan parts h = sum_rest x _ h

  call_ours : (x : call.Call) → IsReady scope (Call x) → AreOf ours (call_names (resolved_call scope x))
  call_ours x h =
      let p3 = and_parts (range_right scope x.first && if_there (range_right scope) x.second && if_there (range_right scope) x.target) (form_right x.form scope x) h.sound.right in
      let p2 = and_parts (range_right scope x.first && if_there (range_right scope) x.second) (if_there (range_right scope) x.target) p3.0 in
      let p1 = and_parts (range_right scope x.first) (if_there (range_right scope) x.second) p2.0 in
      let rest = rest_ours x x.form (and_parts _ _ h.allowed).0 p3.1 in
      let a = range_names (resolved_range scope x.first) in
      let b = names_of range_names (option_map (resolved_range scope) x.second) in
      let c = names_of range_names (option_map (resolved_range scope) x.target) in
      let d = names_of val_names (option_map (resolved_val scope) x.init) in
      let f = names_of op_names x.op in
      let g = option_to_list x.function in
      let s = names_of cell_names (option_map (resolved_cell scope) x.store) in
      both (a ++ b ++ c ++ d ++ f ++ g) s
      (both (a ++ b ++ c ++ d ++ f) g
      (both (a ++ b ++ c ++ d) f
      (both (a ++ b ++ c) d
      (both (a ++ b) c (both a b (range_ours x.first p1.0) (part_ours range_names (resolved_range scope) (range_right scope) range_ours x.second p1.1))
      (part_ours range_names (resolved_range scope) (range_right scope) range_ours x.target p2.1))
      (any_part x.init)) rest.op) rest.function) rest.store

  -- ---- loops

  abbrev reduces : ReduceClause → Kind → Bool
  reduces x kind = cell_right scope kind x.cell && op_right scope kind x.op && if_there (val_fits scope kind) x.identity

  initial_ours : (kind : Kind) (x : Initial) → initial_right scope kind x ≡ true → AreOf ours (initial_names (resolved_initial scope x))
  initial_ours kind (initials.Val x) h = val_ours x
  initial_ours kind (initials.Cell x) h = cell_ours kind x h

  no_sum : (o : Option Sum) → AreOf ours (names_of sum_names (option_map (resolved_sum scope) o))
  no_sum None = tt
  no_sum (Some x) = tt

  clause_ours : (x : Clause) → clause_right scope x ≡ true → AreOf ours (clause_names (resolved_clause scope x))
  clause_ours (clauses.Reduce x) h =
      by_kind (kind_of_array scope x.cell.array) (reduces x) (AreOf ours (clause_names (resolved_clause scope (clauses.Reduce x)))) h
      (λ kind g.
      let p2 = and_parts _ (if_there (val_fits scope kind) x.identity) g in
      let p1 = and_parts (cell_right scope kind x.cell) (op_right scope kind x.op) p2.0 in
      both (cell_names (resolved_cell scope x.cell) ++ op_names x.op) (names_of val_names (option_map (resolved_val scope) x.identity))
      (both (cell_names (resolved_cell scope x.cell)) (op_names x.op) (cell_ours kind x.cell p1.0) (op_ours kind x.op p1.1)) (any_part x.identity))
  clause_ours (clauses.Induct x) h =
      let p2 = and_parts _ (if_there (sum_is scope (holds x.kind)) x.step) h in
      both (initial_names (resolved_initial scope x.initial)) (names_of sum_names (option_map (resolved_sum scope) x.step))
      (initial_ours x.kind x.initial (and_parts _ (initial_right scope x.kind x.initial) p2.0).1) (no_sum x.step)

  clauses_ours : (xs : List Clause) → list_all (clause_right scope) xs ≡ true → AreOf ours (flat_map clause_names (map (resolved_clause scope) xs))
  clauses_ours [] h = tt
  clauses_ours (x ∷ xs) h =
      let parts = and_parts (clause_right scope x) (list_all (clause_right scope) xs) h in
      both (clause_names (resolved_clause scope x)) (flat_map clause_names (map (resolved_clause scope) xs)) (clause_ours x parts.0) (clauses_ours xs parts.1)

  -- the local names of clauses
  clause_owned : (x : Clause) (es : Scope) → is_among (clause_name x) ours ≡ true → Owns es scope ours → Owns (clause_entries scope x ++ es) scope ours
  clause_owned (clauses.Reduce x) es among o =
      elim (kind_of_array scope x.cell.array) as (λ k. Owns ((elim k [ None ↦ [] | Some kind ↦ (x.view, View kind) ∷ [] ]) ++ es) scope ours) [
        | None ↦ o
        | Some kind ↦ owns_more es scope ours x.view (View kind) (view_local kind) among o
      ]
  clause_owned (clauses.Induct x) es among o = owns_more es scope ours x.name (Value x.kind) (value_local x.kind) among o

  clauses_owned : (xs : List Clause) (es : Scope) → AreOf ours (flat_map (λ c. clause_name c ∷ []) xs) → Owns es scope ours → Owns (fold (λ entries c. clause_entries scope c ++ entries) es xs) scope ours
  clauses_owned [] es among o = o
  clauses_owned (x ∷ xs) es among o = clauses_owned xs (clause_entries scope x ++ es) among.1 (clause_owned x es among.0 o)

  joined_names : (xs : List BodyStmt) → flat_map (λ y. y) (map all_names xs) ≡ flat_map all_names xs
  joined_names [] = refl
  joined_names (x ∷ xs) = ap (λ ys. all_names x ++ ys) (joined_names xs)

  joined_lets : (xs : List BodyStmt) → flat_map (λ y. y) (map lets xs) ≡ flat_map lets xs
  joined_lets [] = refl
  joined_lets (x ∷ xs) = ap (λ ys. lets x ++ ys) (joined_lets xs)

  joined_places : (xs : List BodyStmt) → flat_map (λ y. y) (map places xs) ≡ flat_map places xs
  joined_places [] = refl
  joined_places (x ∷ xs) = ap (λ ys. places x ++ ys) (joined_places xs)

  loop_ours : (x : loops.Loop) → AreOf ours (loop_locals x) → has_not_affine scope (Loop x) ≡ false → IsReady scope (Loop x) → AreOf ours (loop_text_names (resolved_loop scope x))
  loop_ours x local lines h =
      let p4 = and_parts _ (all_right (body_scope scope x) (map checked_stmt x.body)) h.sound.right in
      let right = (and_parts _ (list_all (clause_right scope) x.clauses) p4.0).1 in
      let head = each.front (λ name. is_among name ours ≡ true) (head_locals x) (flat_map lets x.body) local in
      let inner = each.back (λ name. is_among name ours ≡ true) (head_locals x) (flat_map lets x.body) local in
      let own : Owns (body_scope scope x) scope ours =
      owns_more (fold (λ entries c. clause_entries scope c ++ entries) scope x.clauses) scope ours x.index (Value kinds.I64) (value_local kinds.I64) head.0 (clauses_owned x.clauses scope head.1 owns) in
      let mine : (name : Name) → has (bytes_eq name) (Some x.index) ≡ true → is_among name ours ≡ true = λ name same. ap (λ n. is_among n ours) ((bytes_eq-Decides name x.index).0 same) ∙ head.0 in
      let body =
      body_names scope (Some x.index) ours mine x.body (body_scope scope x) own (subst (AreOf ours) (sym (joined_lets x.body)) inner)
      (ap (list_any (index_not_affine scope (Some x.index))) (joined_places x.body) ∙ lines) p4.1 in
      let heads = head_locals (resolved_loop scope x) in
      let step = names_of sum_names (option_map (resolved_sum scope) x.step) in
      let cs = flat_map clause_names (map (resolved_clause scope) x.clauses) in
      let lows = sum_names (resolved_sum scope x.low) in
      let highs = sum_names (resolved_sum scope x.high) in
      both (heads ++ lows ++ highs ++ step ++ cs) (flat_map all_names (map (resolved_stmt scope) x.body))
      (both (heads ++ lows ++ highs ++ step) cs
      (both (heads ++ lows ++ highs) step
      (both (heads ++ lows) highs (both heads lows (subst (λ names. AreOf ours (x.index ∷ names)) (sym (heads_same scope x.clauses)) head) tt) tt)
      (no_sum x.step)) (clauses_ours x.clauses right))
      (subst (AreOf ours) (joined_names (map (resolved_stmt scope) x.body)) body)

-- ---- texts

each_true : (among xs : List Name) → AreOf among xs → list_all (λ name. is_among name among) xs ≡ true
each_true among [] h = refl
each_true among (x ∷ xs) h = ap (λ b. b && list_all (λ name. is_among name among) xs) h.0 ∙ each_true among xs h.1

module _ (scope : Scope) (arrays : List ArrayInfo) (functions : List FunctionInfo) (shown : AreShown scope arrays functions) where
  -- names that are new in a scope are those of no array and no function
  new_names : (locals : List Name) → clash (names_in scope ++ []) locals ≡ false → clash (globals arrays functions) locals ≡ false
  new_names locals h =
      let parts = or_parts (has_repeat locals) (meet locals (names_in scope ++ [])) h in
      ap (λ b. b || meet locals (globals arrays functions)) parts.0
      ∙ meets_not locals (globals arrays functions)
      (λ name among.
      let none = unnamed scope name (in_neither (names_in scope) [] name (apart_from locals (names_in scope ++ []) name parts.1 among)).0 in
      neither_in (array_names arrays) (function_names functions) name
      (not_true (is_among name (array_names arrays)) (λ found. let a = shown.arrays_known name found in none-some (Array a.kind a.size) (sym none ∙ a.means)))
      (not_true (is_among name (function_names functions)) (λ found. let f = shown.functions_known name found in none-some (Function f.signature) (sym none ∙ f.means))))

  -- the names of a statement, where these arrays and functions stand before it
  record Uses (x : Simple) : Type 0 where
    pub known : list_all (λ name. is_among name (globals arrays functions ++ statement_locals x)) (simple_names x) ≡ true
    pub apart : clash (globals arrays functions) (statement_locals x) ≡ false

  -- a statement without local names
  no_locals : (x : Simple) → statement_locals x ≡ [] → AreOf (globals arrays functions ++ []) (simple_names x) → Uses x
  no_locals x none h = record {
    known = ap (λ ls. list_all (λ name. is_among name (globals arrays functions ++ ls)) (simple_names x)) none ∙ each_true (globals arrays functions ++ []) (simple_names x) h;
    apart = ap (clash (globals arrays functions)) none;
  }

  assign_names : (at : Cell) (x : Expr) (o : Option Kind) → has_not_affine scope (Assign at x) ≡ false → has (λ kind. cell_right scope kind at && fits true scope kind x) o ≡ true
      → AreOf (globals arrays functions ++ []) (cell_names (resolved_cell scope at) ++ expr_names (resolved_expr scope x))
  assign_names at x None lines h = absurd (false≢true h)
  assign_names at x (Some kind) lines h =
      let ours = globals arrays functions ++ [] in
      let parts = and_parts (cell_right scope kind at) (fits true scope kind x) h in
      each.both (λ name. is_among name ours ≡ true) (cell_names (resolved_cell scope at)) (expr_names (resolved_expr scope x)) (cell_ours scope arrays functions shown [] kind at parts.0)
      (fitting_names scope None ours (λ name h. absurd (false≢true h)) scope (owns scope arrays functions shown []) kind x parts.1 lines)

  statement_uses : (s : Simple) → has_not_affine scope s ≡ false → IsReady scope s → Uses (resolved_simple scope s)
  statement_uses (Throw n) lines h = no_locals (Throw n) refl tt
  statement_uses (Assign at x) lines h = no_locals (resolved_simple scope (Assign at x)) refl (assign_names at x (kind_of_array scope at.array) lines h.sound.right)
  statement_uses (Call x) lines h = no_locals (resolved_simple scope (Call x)) refl (call_ours scope arrays functions shown [] x h)
  statement_uses (Loop x) lines h =
      let locals = loop_locals x in
      let ours = globals arrays functions ++ locals in
      let own : AreOf ours locals = all_among (globals arrays functions) locals in
      let names = loop_ours scope arrays functions shown locals x own lines h in
      record {
        known =
            ap (λ ls. list_all (λ name. is_among name (globals arrays functions ++ ls)) (loop_text_names (resolved_loop scope x))) (locals_same scope x)
            ∙ each_true ours (loop_text_names (resolved_loop scope x)) names;
        apart = ap (clash (globals arrays functions)) (locals_same scope x) ∙ new_names locals h.apart;
      }

  all_use : (ss : List Simple) → list_any (has_not_affine scope) ss ≡ false → Each (IsReady scope) ss → Each (Without Uses scope) ss
  all_use [] lines h = tt
  all_use (s ∷ ss) lines h =
      let parts = or_parts (has_not_affine scope s) (list_any (has_not_affine scope) ss) lines in
      (statement_uses s parts.0 h.0, all_use ss parts.1 h.1)

-- ---- all items

-- the first names of lists that grow
first_same : (arrays more : List ArrayInfo) (functions others : List FunctionInfo) (n m : ℕ) → n ≤ length arrays → m ≤ length functions
    → array_names (take n (arrays ++ more)) ++ function_names (take m (functions ++ others)) ≡ array_names (take n arrays) ++ function_names (take m functions)
first_same arrays more functions others n m few less = λ i. array_names (take-append-le n arrays more few i) ++ function_names (take-append-le m functions others less i)

first_all : (arrays more : List ArrayInfo) (functions others : List FunctionInfo)
    → array_names (take (length arrays) (arrays ++ more)) ++ function_names (take (length functions) (functions ++ others)) ≡ globals arrays functions
first_all arrays more functions others = λ i. array_names (take-append_seam arrays more i) ++ function_names (take-append_seam functions others i)

still_named : (scope : Scope) (n : ℕ) (lists : Lists) (x : Item) (s : Simple) → IsNamed lists s → IsNamed (with_item scope n lists x) s
still_named scope n lists x s h =
    let same = first_same lists.arrays (arrays_of scope x) lists.functions (functions_of scope x) h.arrays h.functions h.within.0 h.within.1 in
    let a = length-append lists.arrays (arrays_of scope x) in
    let f = length-append lists.functions (functions_of scope x) in
    let w = h.within in
    record {
      arrays = h.arrays;
      functions = h.functions;
      within = (omega (arith, a, w), omega (arith, f, w));
      known = ap (λ names. list_all (λ name. is_among name (names ++ statement_locals s)) (simple_names s)) same ∙ h.known;
      apart = ap (λ names. clash names (statement_locals s)) same ∙ h.apart;
    }

new_named : (before : List Item) (lists : Lists) (x : Item) (s : Simple) (shown : AreShown (known before) lists.arrays lists.functions) → Uses (known before) lists.arrays lists.functions shown s
    → IsNamed (with_item (known before) (length before + 1) lists x) s
new_named before lists x s shown h =
    let scope = known before in
    let same = first_all lists.arrays (arrays_of scope x) lists.functions (functions_of scope x) in
    let a = length-append lists.arrays (arrays_of scope x) in
    let f = length-append lists.functions (functions_of scope x) in
    record {
      arrays = length lists.arrays;
      functions = length lists.functions;
      within = (omega (arith, a), omega (arith, f));
      known = ap (λ names. list_all (λ name. is_among name (names ++ statement_locals s)) (simple_names s)) same ∙ h.known;
      apart = ap (λ names. clash names (statement_locals s)) same ∙ h.apart;
    }

record AreNamed (before : List Item) (lists : Lists) : Type 0 where
  pub shown : AreShown (known before) lists.arrays lists.functions
  pub texts : Each (HoldsOf (IsNamed lists)) lists.texts
  pub blocks : Each (HoldsIn (IsNamed lists)) lists.blocks

named_turn : IsTurn AreNamed
named_turn before x lists keeps written h =
    let scope = known before in
    let next : Lists = with_item scope (length before + 1) lists x in
    let still = still_named scope (length before + 1) lists x in
    let own : Each (Without (IsNamed next) scope) (statements x) =
    each.weaker (Without (Uses scope lists.arrays lists.functions h.shown) scope) (Without (IsNamed next) scope) (λ s u. new_named before lists x (resolved_simple scope s) h.shown u) (statements x)
    (all_use scope lists.arrays lists.functions h.shown (statements x) keeps.affine (item_ready before x keeps written.allowed)) in
    record {
      shown = shown_turn before x lists keeps written h.shown;
      texts =
          each.both (HoldsOf (IsNamed next)) lists.texts (texts_of scope x) (each.weaker (HoldsOf (IsNamed lists)) (HoldsOf (IsNamed next)) (λ text. still (as_statement text)) lists.texts h.texts)
          (texts_hold (IsNamed next) scope (statements x) own);
      blocks =
          each.both (HoldsIn (IsNamed next)) lists.blocks (blocks_of scope (length before + 1) x)
          (each.weaker (HoldsIn (IsNamed lists)) (HoldsIn (IsNamed next)) (λ block all k d within. still _ (all k d within)) lists.blocks h.blocks)
          (blocks_hold (IsNamed next) scope (length before + 1) x own);
    }

nothing_named : AreNamed [] no_lists
nothing_named = record { shown = nothing_shown; texts = tt; blocks = tt }

pub texts_named : (lists : Lists) → IsProgram lists → All (HoldsOf (IsNamed lists)) lists.texts
texts_named lists h = each.all_of (HoldsOf (IsNamed lists)) lists.texts (by_items AreNamed named_turn nothing_named lists h).texts

pub blocks_named : (lists : Lists) → IsProgram lists → All (HoldsIn (IsNamed lists)) lists.blocks
blocks_named lists h = each.all_of (HoldsIn (IsNamed lists)) lists.blocks (by_items AreNamed named_turn nothing_named lists h).blocks
