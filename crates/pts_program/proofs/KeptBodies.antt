-- Loops that are right are right without constants, where their arrays and functions are known.
use Rattle.std.specs.Prelude.{◌||◌, unwrap_or}
use Rattle.std.proofs.Common.{◌≡◌, ℕ, Bool, true, false, ◌&&◌, if◌then◌else◌, Option, Some, None, List, [], ◌∷◌, ◌++◌, fold, map, option_map, option_and_then, bytes_eq, refl, sym, ap, ◌∙◌, subst}
use Rattle.std.specs.Prelude.{flat_map}
use Rattle.std.specs.List.{list_all}
use Rattle.std.proofs.lemmas.Bool.{and_parts, false≢true}
use Rattle.std.proofs.lemmas.Option.{none-some}
use Rattle.std.proofs.lemmas.Slice.Eq.{bytes_eq-Decides}
use Rattle.pts_types.specs.declared.value.Kind.{Kind}
use Rattle.pts_types.specs.declared.value.Kind.TheVariants as kinds
use Rattle.pts_tree.specs.Spelling.{if_there}
use Rattle.pts_tree.specs.declared.sum.Sum.{Sum}
use Rattle.pts_tree.specs.Expressions.{expr_allowed}
use Rattle.pts_tree.specs.Statements.{Phrase, bstmt_allowed, loop_allowed, phrase, phrase_allowed}
use Rattle.pts_tree.specs.declared.expr.Expr.{Expr}
use Rattle.pts_tree.specs.declared.loops.BodyStmt.{BodyStmt}
use Rattle.pts_tree.specs.declared.loops.BodyStmt.TheVariants as b
use Rattle.pts_tree.specs.declared.loops.Clause.{Clause}
use Rattle.pts_tree.specs.declared.loops.Clause.TheVariants as clauses
use Rattle.pts_tree.specs.declared.loops.Loop as loops
use Rattle.pts_tree.proofs.Phrases.{phrase-Assign, phrase-Let, phrase-Combine, phrase-If, phrase-VecOff, phrase-Ordered, phrases}
use Rattle.pts_rules.specs.declared.meaning.Meaning.{Meaning}
use Rattle.pts_rules.specs.declared.meaning.Meaning.TheVariants.{Constant, Array, Function, Value, View}
use Rattle.pts_rules.specs.Kinds.{fits, let_kind}
use Rattle.pts_rules.specs.Known.{Scope, meaning_of, as_array, as_constant, as_function, as_view, constant_of, has, holds, is_number, kind_of_array, sum_is, view_of}
use Rattle.pts_rules.specs.Mistyped.{Checked, all_right, body_scope, checked_stmt, clause_entries, clause_right, loop_right}
use Rattle.pts_rules.specs.Names.{meet, names_in}
use Rattle.pts_rules.specs.Parts.{Name, clause_name, head_locals, is_among, lets, loop_locals, names_of}
use Rattle.pts_rules.proofs.Bodies.{checked-Assign, checked-Let, checked-Combine, checked-If, checked-VecOff, checked-Ordered, lets-If, lets-Let, lets-VecOff}
use Rattle.pts_constants.specs.Resolved.{resolved_clause, resolved_expr, resolved_loop, resolved_place, resolved_stmt, resolved_sum}
use Rattle.pts_constants.proofs.ResolvedStatements.{stmt-Assign, stmt-Let, stmt-Combine, stmt-If, stmt-VecOff, stmt-Ordered}
use Rattle.pts_program.proofs.BodyForms.{AllStmts, IfStmts, StmtForms, all_of_them, every_stmt}
use Rattle.pts_program.proofs.ExactSums.{still_holds}
use Rattle.pts_program.proofs.KeptCalls.{Agrees, clauses_still, entries_same}
use Rattle.pts_program.proofs.KeptKinds.{Carries, plain, resolved_fits, resolved_own}
use Rattle.pts_program.proofs.NamesApart.{apart_from, in_back, in_front, in_neither, unnamed}
use Rattle.pts_program.proofs.Truths.{both}

-- the names of a place in a loop, with its constants and without
pub record IsCarried (scope outer names : Scope) : Type 0 where
  pub expressions : Carries true scope outer names
  pub views : (name : Name) (kind : Kind) → meaning_of scope name ≡ Some (View kind) → view_of names name ≡ Some kind

-- outside of loops there are no local names
pub outside : (scope names : Scope) → ((name : Name) (kind : Kind) → ¬ (meaning_of scope name ≡ Some (Value kind))) → ((name : Name) (kind : Kind) → ¬ (meaning_of scope name ≡ Some (View kind)))
    → Agrees scope names → IsCarried scope scope names
outside scope names no_values no_views agrees = record {
  expressions = record {
    constants = λ name z is. ap (option_and_then as_constant) is;
    shown = λ name kind is. absurd (no_values name kind is);
    values = λ name kind is. absurd (no_values name kind is);
    functions = agrees.functions;
    arrays = λ on name kind size is. ap (λ m. option_map (λ a. a.0) (option_and_then as_array m)) (agrees.arrays name kind size is);
  };
  views = λ name kind is. absurd (no_views name kind is);
}

-- a local name
pub record IsLocal (m : Meaning) : Type 0 where
  pub constant : as_constant m ≡ None
  pub array : as_array m ≡ None
  pub function : as_function m ≡ None

pub value_local : (kind : Kind) → IsLocal (Value kind)
value_local kind = record { constant = refl; array = refl; function = refl }

pub view_local : (kind : Kind) → IsLocal (View kind)
view_local kind = record { constant = refl; array = refl; function = refl }

-- one more, that is the name of no constant
local_more : (scope outer names : Scope) (x : Name) (m : Meaning) → IsLocal m → constant_of outer x ≡ None → IsCarried scope outer names → IsCarried ((x, m) ∷ scope) outer ((x, m) ∷ names)
local_more scope outer names x m l shown h = record {
  expressions = record {
    constants = λ name z is.
        elim (bytes_eq name x) as (λ b. (if b then Some m else meaning_of scope name) ≡ Some (Constant z) → constant_of outer name ≡ Some z) [
          | true ↦ λ found. absurd (none-some z (sym l.constant ∙ ap (option_and_then as_constant) found))
          | false ↦ λ found. h.expressions.constants name z found
        ] is;
    shown = λ name kind is.
        (elim (bytes_eq name x) as (λ b. bytes_eq name x ≡ b → (if b then Some m else meaning_of scope name) ≡ Some (Value kind) → constant_of outer name ≡ None) [
          | true ↦ λ same found. ap (constant_of outer) ((bytes_eq-Decides name x).0 same) ∙ shown
          | false ↦ λ other found. h.expressions.shown name kind found
        ]) refl is;
    values = λ name kind is.
        elim (bytes_eq name x) as (λ b. (if b then Some m else meaning_of scope name) ≡ Some (Value kind) → (if b then Some m else meaning_of names name) ≡ Some (Value kind)) [
          | true ↦ λ found. found
          | false ↦ λ found. h.expressions.values name kind found
        ] is;
    functions = λ name f is.
        elim (bytes_eq name x) as (λ b. (if b then Some m else meaning_of scope name) ≡ Some (Function f) → (if b then Some m else meaning_of names name) ≡ Some (Function (plain f))) [
          | true ↦ λ found. absurd (none-some f (sym l.function ∙ ap (option_and_then as_function) found))
          | false ↦ λ found. h.expressions.functions name f found
        ] is;
    arrays = λ on name kind size is.
        elim (bytes_eq name x) as (λ b. (if b then Some m else meaning_of scope name) ≡ Some (Array kind size)
        → option_map (λ a. a.0) (option_and_then as_array (if b then Some m else meaning_of names name)) ≡ Some kind) [
          | true ↦ λ found. absurd (none-some (kind, size) (sym l.array ∙ ap (option_and_then as_array) found))
          | false ↦ λ found. h.expressions.arrays on name kind size found
        ] is;
  };
  views = λ name kind is.
      elim (bytes_eq name x) as (λ b. (if b then Some m else meaning_of scope name) ≡ Some (View kind) → option_and_then as_view (if b then Some m else meaning_of names name) ≡ Some kind) [
        | true ↦ λ found. ap (option_and_then as_view) found
        | false ↦ λ found. h.views name kind found
      ] is;
}

module _ (outer : Scope) where
  -- none of these names is that of a constant
  abbrev pub AllShown : List Name → Type 0
  AllShown xs = (name : Name) → is_among name xs ≡ true → constant_of outer name ≡ None

  front_shown : (xs ys : List Name) → AllShown (xs ++ ys) → AllShown xs
  front_shown xs ys h name among = h name (in_front xs ys name among)

  rest_shown : (xs ys : List Name) → AllShown (xs ++ ys) → AllShown ys
  rest_shown xs ys h name among = h name (in_back xs ys name among)

  one_shown : (x : Name) (xs : List Name) → AllShown (x ∷ xs) → constant_of outer x ≡ None
  one_shown x xs h = h x (ap (λ b. b || is_among x xs) ((bytes_eq-Decides x x).1 refl))

  -- names that meet none in scope
  pub shown_apart : (own xs : List Name) → meet xs (names_in outer ++ own) ≡ false → AllShown xs
  shown_apart own xs apart name among = ap (option_and_then as_constant) (unnamed outer name (in_neither (names_in outer) own name (apart_from xs (names_in outer ++ own) name apart among)).0)

  abbrev r : BodyStmt → BodyStmt
  r = resolved_stmt outer

  abbrev e : Expr → Expr
  e = resolved_expr outer

  -- a statement that is right again, and the names behind it
  record IsKept (x : BodyStmt) (scope names : Scope) : Type 0 where
    pub right : (checked_stmt (r x)).right names ≡ true
    pub behind : IsCarried ((checked_stmt x).behind scope) outer ((checked_stmt (r x)).behind names)

  abbrev Stays : BodyStmt → Type 0
  Stays x = (scope names : Scope) → IsCarried scope outer names → AllShown (lets x) → (phrase x).allowed ≡ true → (checked_stmt x).right scope ≡ true → IsKept x scope names

  kept_by : (x : BodyStmt) (c d : Checked) (scope names : Scope) → checked_stmt x ≡ c → checked_stmt (r x) ≡ d
      → (c.right scope ≡ true → d.right names ≡ true) → (c.right scope ≡ true → IsCarried (c.behind scope) outer (d.behind names)) → (checked_stmt x).right scope ≡ true → IsKept x scope names
  kept_by x c d scope names was is right carried h =
      let own = sym (ap (λ (k : Checked). k.right scope) was) ∙ h in
      record {
        right = ap (λ (k : Checked). k.right names) is ∙ right own;
        behind =
            subst (λ (k : Checked). IsCarried (k.behind scope) outer ((checked_stmt (r x)).behind names)) (sym was)
            (subst (λ (k : Checked). IsCarried (c.behind scope) outer (k.behind names)) (sym is) (carried own));
      }

  -- ---- expressions and places

  array_by : (scope names : Scope) → IsCarried scope outer names → (name : Name) (o : Option Meaning) → meaning_of scope name ≡ o → (kind : Kind)
      → option_map (λ a. a.0) (option_and_then as_array o) ≡ Some kind → kind_of_array names name ≡ Some kind
  array_by scope names c name None is kind h = absurd (none-some kind h)
  array_by scope names c name (Some (Constant z)) is kind h = absurd (none-some kind h)
  array_by scope names c name (Some (Array k size)) is kind h = c.expressions.arrays refl name k size is ∙ h
  array_by scope names c name (Some (Function f)) is kind h = absurd (none-some kind h)
  array_by scope names c name (Some (Value k)) is kind h = absurd (none-some kind h)
  array_by scope names c name (Some (View k)) is kind h = absurd (none-some kind h)

  array_still : (scope names : Scope) → IsCarried scope outer names → (name : Name) (p q : Kind → Bool) → ((kind : Kind) → p kind ≡ true → q kind ≡ true) → (o : Option Kind)
      → kind_of_array scope name ≡ o → has p o ≡ true → has q (kind_of_array names name) ≡ true
  array_still scope names c name p q keeps None is h = absurd (false≢true h)
  array_still scope names c name p q keeps (Some kind) is h = ap (has q) (array_by scope names c name (meaning_of scope name) refl kind is) ∙ keeps kind h

  view_by : (scope names : Scope) → IsCarried scope outer names → (name : Name) (o : Option Meaning) → meaning_of scope name ≡ o → (p q : Kind → Bool) → ((kind : Kind) → p kind ≡ true → q kind ≡ true)
      → has p (option_and_then as_view o) ≡ true → has q (view_of names name) ≡ true
  view_by scope names c name None is p q keeps h = absurd (false≢true h)
  view_by scope names c name (Some (Constant z)) is p q keeps h = absurd (false≢true h)
  view_by scope names c name (Some (Array k size)) is p q keeps h = absurd (false≢true h)
  view_by scope names c name (Some (Function f)) is p q keeps h = absurd (false≢true h)
  view_by scope names c name (Some (Value k)) is p q keeps h = absurd (false≢true h)
  view_by scope names c name (Some (View k)) is p q keeps h = ap (has q) (c.views name k is) ∙ keeps k h

  fits_still : (scope names : Scope) → IsCarried scope outer names → (kind : Kind) (x : Expr) → expr_allowed x ≡ true → fits true scope kind x ≡ true → fits true names kind (e x) ≡ true
  fits_still scope names c kind x allowed h = resolved_fits true scope outer names c.expressions kind x allowed h

  -- ---- statements

  all_kept : (xs : List BodyStmt) → AllStmts Stays xs → (scope names : Scope) → IsCarried scope outer names → AllShown (flat_map (λ y. y) (map lets xs)) → list_all phrase_allowed (map phrase xs) ≡ true
      → all_right scope (map checked_stmt xs) ≡ true → all_right names (map checked_stmt (map r xs)) ≡ true
  all_kept [] known scope names c shown allowed h = refl
  all_kept (x ∷ xs) known scope names c shown allowed h =
      let parts = and_parts ((checked_stmt x).right scope) (all_right ((checked_stmt x).behind scope) (map checked_stmt xs)) h in
      let own = and_parts (phrase_allowed (phrase x)) (list_all phrase_allowed (map phrase xs)) allowed in
      let here = known.0 scope names c (front_shown (lets x) (flat_map (λ y. y) (map lets xs)) shown) own.0 parts.0 in
      both ((checked_stmt (r x)).right names) (all_right ((checked_stmt (r x)).behind names) (map checked_stmt (map r xs))) here.right
      (all_kept xs known.1 ((checked_stmt x).behind scope) ((checked_stmt (r x)).behind names) here.behind (rest_shown (lets x) (flat_map (λ y. y) (map lets xs)) shown) own.1 parts.1)

  else_kept : (ys : Option (List BodyStmt)) → IfStmts Stays ys → (scope names : Scope) → IsCarried scope outer names → AllShown (names_of (flat_map (λ y. y)) (option_map (map lets) ys))
      → if_there (list_all phrase_allowed) (phrases ys) ≡ true → if_there (all_right scope) (option_map (map checked_stmt) ys) ≡ true
      → if_there (all_right names) (option_map (map checked_stmt) (option_map (map r) ys)) ≡ true
  else_kept None known scope names c shown allowed h = refl
  else_kept (Some ys) known scope names c shown allowed h = all_kept ys known scope names c shown allowed h

  -- what the grammar asks of a statement
  asked : (x : BodyStmt) (p : Phrase) → phrase x ≡ p → (phrase x).allowed ≡ true → p.allowed ≡ true
  asked x p is h = sym (ap phrase_allowed is) ∙ h

  if_kept : (x : Expr) (xs : List BodyStmt) (ys : Option (List BodyStmt)) → AllStmts Stays xs → IfStmts Stays ys → Stays (b.If x xs ys)
  if_kept x xs ys known other scope names c shown allowed h =
      let own = asked (b.If x xs ys) _ (phrase-If x xs ys) allowed in
      let a2 = and_parts (expr_allowed x && list_all phrase_allowed (map phrase xs)) (if_there (list_all phrase_allowed) (phrases ys)) own in
      let a1 = and_parts (expr_allowed x) (list_all phrase_allowed (map phrase xs)) a2.0 in
      let inner : AllShown (flat_map (λ y. y) (map lets xs) ++ names_of (flat_map (λ y. y)) (option_map (map lets) ys)) = subst AllShown (lets-If x xs ys) shown in
      kept_by (b.If x xs ys) _ _ scope names (checked-If x xs ys) (ap checked_stmt (stmt-If outer x xs ys) ∙ checked-If (e x) (map r xs) (option_map (map r) ys))
      (λ right.
      let p2 = and_parts (fits true scope kinds.Bool x && all_right scope (map checked_stmt xs)) (if_there (all_right scope) (option_map (map checked_stmt) ys)) right in
      let p1 = and_parts (fits true scope kinds.Bool x) (all_right scope (map checked_stmt xs)) p2.0 in
      both _ _
      (both _ _ (fits_still scope names c kinds.Bool x a1.0 p1.0)
      (all_kept xs known scope names c (front_shown (flat_map (λ y. y) (map lets xs)) (names_of (flat_map (λ y. y)) (option_map (map lets) ys)) inner) a1.1 p1.1))
      (else_kept ys other scope names c (rest_shown (flat_map (λ y. y) (map lets xs)) (names_of (flat_map (λ y. y)) (option_map (map lets) ys)) inner) a2.1 p2.1))
      (λ right. c) h

  let_kept : (name : List ℕ) (x : Expr) → Stays (b.Let name x)
  let_kept name x scope names c shown allowed h =
      let own = asked (b.Let name x) _ (phrase-Let name x) allowed in
      let kind = let_kind scope x in
      let again : fits true scope kind x ≡ true → let_kind names (e x) ≡ kind = λ right. ap (λ o. unwrap_or o kinds.U64) (resolved_own true scope outer names c.expressions kind x own right) in
      kept_by (b.Let name x) _ _ scope names (checked-Let name x) (ap checked_stmt (stmt-Let outer name x) ∙ checked-Let name (e x))
      (λ right. subst (λ k. fits true names k (e x) ≡ true) (sym (again right)) (fits_still scope names c kind x own right))
      (λ right. subst (λ k. IsCarried ((name, Value kind) ∷ scope) outer ((name, Value k) ∷ names)) (sym (again right))
      (local_more scope outer names name (Value kind) (value_local kind) (one_shown name [] (subst AllShown (lets-Let name x) shown)) c)) h

  forms : StmtForms Stays
  forms = record {
    Assign = λ at x scope names c shown allowed h.
        let own = asked (b.Assign at x) _ (phrase-Assign at x) allowed in
        kept_by (b.Assign at x) _ _ scope names (checked-Assign at x) (ap checked_stmt (stmt-Assign outer at x) ∙ checked-Assign (resolved_place outer at) (e x))
        (λ right. array_still scope names c at.array (λ kind. fits true scope kind x) (λ kind. fits true names kind (e x)) (λ kind. fits_still scope names c kind x (and_parts _ _ own).1) (kind_of_array scope at.array) refl right)
        (λ right. c) h;
    Let = let_kept;
    Combine = λ name x scope names c shown allowed h.
        let own = asked (b.Combine name x) _ (phrase-Combine name x) allowed in
        kept_by (b.Combine name x) _ _ scope names (checked-Combine name x) (ap checked_stmt (stmt-Combine outer name x) ∙ checked-Combine name (e x))
        (λ right. view_by scope names c name (meaning_of scope name) refl (λ kind. fits true scope kind x) (λ kind. fits true names kind (e x)) (λ kind. fits_still scope names c kind x own) right)
        (λ right. c) h;
    If = if_kept;
    VecOff = λ xs known scope names c shown allowed h.
        let own = asked (b.VecOff xs) _ (phrase-VecOff xs) allowed in
        kept_by (b.VecOff xs) _ _ scope names (checked-VecOff xs) (ap checked_stmt (stmt-VecOff outer xs) ∙ checked-VecOff (map r xs))
        (λ right. all_kept xs known scope names c (subst AllShown (lets-VecOff xs) shown) own right)
        (λ right. c) h;
    Ordered = λ at op x scope names c shown allowed h.
        let own = asked (b.Ordered at op x) _ (phrase-Ordered at op x) allowed in
        kept_by (b.Ordered at op x) _ _ scope names (checked-Ordered at op x) (ap checked_stmt (stmt-Ordered outer at op x) ∙ checked-Ordered (resolved_place outer at) op (e x))
        (λ right.
        array_still scope names c at.array (λ kind. is_number kind && fits true scope kind x) (λ kind. is_number kind && fits true names kind (e x))
        (λ kind g. let both_of = and_parts (is_number kind) (fits true scope kind x) g in both _ _ both_of.0 (fits_still scope names c kind x (and_parts _ _ own).1 both_of.1))
        (kind_of_array scope at.array) refl right)
        (λ right. c) h;
  }

  stmts_stay : (xs : List BodyStmt) → AllStmts Stays xs
  stmts_stay xs = all_of_them Stays (every_stmt Stays forms) xs

-- ---- loops

module _ (scope names : Scope) (agrees : Agrees scope names) (out : IsCarried scope scope names) where
  -- the local name of a clause, if it stands for something
  clause_carried : (x : Clause) (es ns : Scope) → constant_of scope (clause_name x) ≡ None → IsCarried es scope ns → IsCarried (clause_entries scope x ++ es) scope (clause_entries scope x ++ ns)
  clause_carried (clauses.Reduce x) es ns shown c =
      elim (kind_of_array scope x.cell.array) as (λ o.
      IsCarried ((elim o [ None ↦ [] | Some kind ↦ (x.view, View kind) ∷ [] ]) ++ es) scope ((elim o [ None ↦ [] | Some kind ↦ (x.view, View kind) ∷ [] ]) ++ ns)) [
        | None ↦ c
        | Some kind ↦ local_more es scope ns x.view (View kind) (view_local kind) shown c
      ]
  clause_carried (clauses.Induct x) es ns shown c = local_more es scope ns x.name (Value x.kind) (value_local x.kind) shown c

  clauses_carried : (xs : List Clause) (es ns : Scope) → list_all (clause_right scope) xs ≡ true → AllShown scope (flat_map (λ c. clause_name c ∷ []) xs) → IsCarried es scope ns
      → IsCarried (fold (λ entries c. clause_entries scope c ++ entries) es xs) scope (fold (λ entries c. clause_entries names c ++ entries) ns (map (resolved_clause scope) xs))
  clauses_carried [] es ns right shown c = c
  clauses_carried (x ∷ xs) es ns right shown c =
      let parts = and_parts (clause_right scope x) (list_all (clause_right scope) xs) right in
      clauses_carried xs (clause_entries scope x ++ es) (clause_entries names (resolved_clause scope x) ++ ns) parts.1 (rest_shown scope (clause_name x ∷ []) (flat_map (λ c. clause_name c ∷ []) xs) shown)
      (subst (λ entries. IsCarried (clause_entries scope x ++ es) scope (entries ++ ns)) (sym (entries_same scope names agrees x parts.0))
      (clause_carried x es ns (one_shown scope (clause_name x) (flat_map (λ c. clause_name c ∷ []) xs) shown) c))

  joined : (xs : List BodyStmt) → flat_map (λ y. y) (map lets xs) ≡ flat_map lets xs
  joined [] = refl
  joined (x ∷ xs) = ap (λ ys. lets x ++ ys) (joined xs)

  allowed_all : (xs : List BodyStmt) → list_all bstmt_allowed xs ≡ true → list_all phrase_allowed (map phrase xs) ≡ true
  allowed_all [] h = refl
  allowed_all (x ∷ xs) h = let parts = and_parts (bstmt_allowed x) (list_all bstmt_allowed xs) h in both (phrase_allowed (phrase x)) (list_all phrase_allowed (map phrase xs)) parts.0 (allowed_all xs parts.1)

  pub loop_still : (x : loops.Loop) → loop_allowed x ≡ true → AllShown scope (loop_locals x) → loop_right scope x ≡ true → loop_right names (resolved_loop scope x) ≡ true
  loop_still x allowed shown h =
      let p4 = and_parts _ (all_right (body_scope scope x) (map checked_stmt x.body)) h in
      let p3 = and_parts _ (list_all (clause_right scope) x.clauses) p4.0 in
      let p2 = and_parts (sum_is scope (holds kinds.I64) x.low && sum_is scope (holds kinds.I64) x.high) (if_there (sum_is scope (holds kinds.I64)) x.step) p3.0 in
      let p1 = and_parts (sum_is scope (holds kinds.I64) x.low) (sum_is scope (holds kinds.I64) x.high) p2.0 in
      let head = front_shown scope (head_locals x) (flat_map lets x.body) shown in
      let inner = rest_shown scope (head_locals x) (flat_map lets x.body) shown in
      let index = one_shown scope x.index (flat_map (λ c. clause_name c ∷ []) x.clauses) head in
      let clauses_shown = rest_shown scope (x.index ∷ []) (flat_map (λ c. clause_name c ∷ []) x.clauses) head in
      let carried : IsCarried (body_scope scope x) scope (body_scope names (resolved_loop scope x)) =
      local_more (fold (λ entries c. clause_entries scope c ++ entries) scope x.clauses) scope (fold (λ entries c. clause_entries names c ++ entries) names (map (resolved_clause scope) x.clauses))
      x.index (Value kinds.I64) (value_local kinds.I64) index (clauses_carried x.clauses scope names p3.1 clauses_shown out) in
      both _ _
      (both _ _
      (both _ _ (both _ _ (still_holds scope names kinds.I64 x.low p1.0) (still_holds scope names kinds.I64 x.high p1.1)) (step_still x.step p2.1))
      (clauses_still scope names agrees x.clauses p3.1))
      (all_kept scope x.body (stmts_stay scope x.body) (body_scope scope x) (body_scope names (resolved_loop scope x)) carried
      (subst (AllShown scope) (sym (joined x.body)) inner) (allowed_all x.body (and_parts _ _ allowed).1) p4.1)
    where
      step_still : (o : Option Sum) → if_there (sum_is scope (holds kinds.I64)) o ≡ true → if_there (sum_is names (holds kinds.I64)) (option_map (resolved_sum scope) o) ≡ true
      step_still None h = refl
      step_still (Some y) h = still_holds scope names kinds.I64 y h
