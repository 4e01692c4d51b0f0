-- The names of a body that is right, and whose indices are lines: without its constants they are local or those of arrays and
-- functions.
use Rattle.std.proofs.Common.{◌≡◌, ℕ, Bool, true, false, ◌&&◌, if◌then◌else◌, Option, Some, None, List, [], ◌∷◌, ◌++◌, map, option_map, option_and_then, bytes_eq, refl, sym, ap, ◌∙◌, subst}
use Rattle.std.specs.Prelude.{flat_map}
use Rattle.std.proofs.lemmas.Bool.{and_parts, false≢true}
use Rattle.std.proofs.lemmas.Option.{none-some}
use Rattle.std.proofs.lemmas.Slice.Eq.{bytes_eq-Decides}
use Rattle.pts_types.specs.declared.value.Kind.{Kind}
use Rattle.pts_types.specs.declared.value.Kind.TheVariants as kinds
use Rattle.pts_types.specs.declared.operation.ScalarOp.{ScalarOp}
use Rattle.pts_tree.specs.Spelling.{if_there}
use Rattle.pts_tree.specs.declared.expr.Expr.{Expr}
use Rattle.pts_tree.specs.declared.expr.Place.{Place}
use Rattle.pts_tree.specs.declared.loops.BodyStmt.{BodyStmt}
use Rattle.pts_tree.specs.declared.loops.BodyStmt.TheOpen.{BodyStmt-F}
use Rattle.pts_tree.specs.declared.loops.BodyStmt.TheVariants as b
use Rattle.pts_rules.specs.declared.meaning.Meaning.{Meaning}
use Rattle.pts_rules.specs.declared.meaning.Meaning.TheVariants.{Constant, Array, Function, Value, View}
use Rattle.pts_rules.specs.Indices.{elements, else_places, places}
use Rattle.pts_rules.specs.Kinds.{fits, let_kind}
use Rattle.pts_rules.specs.Known.{Scope, as_array, as_constant, as_view, constant_of, has, is_number, kind_of_array, meaning_of, view_of}
use Rattle.pts_rules.specs.Mistyped.{Checked, all_right, checked_stmt}
use Rattle.pts_rules.specs.Parts.{Name, expr_names, is_among, lets, names_of, place_names}
use Rattle.pts_rules.proofs.Bodies.{checked-Assign, checked-Let, checked-Combine, checked-If, checked-VecOff, checked-Ordered, lets-If, lets-Let, lets-VecOff, places-Assign, places-Let, places-Combine, places-If, places-VecOff, places-Ordered}
use Rattle.pts_rules.proofs.StatementFolds.{at-Assign, at-Let, at-Combine, at-If, at-VecOff, at-Ordered}
use Rattle.pts_constants.specs.Resolved.{resolved_expr, resolved_place, resolved_stmt}
use Rattle.pts_constants.proofs.ResolvedStatements.{stmt-Assign, stmt-Let, stmt-Combine, stmt-If, stmt-VecOff, stmt-Ordered}
use Rattle.pts_points.proofs.Each.{Each}
use Rattle.pts_points.proofs.Each as each
use Rattle.pts_program.specs.Namings.{all_names, all_names_step}
use Rattle.pts_program.proofs.BodyForms.{AllStmts, IfStmts, StmtForms, all_of_them, every_stmt}
use Rattle.pts_program.proofs.IndexNames.{AreOf}
use Rattle.pts_program.proofs.KeptBodies.{IsLocal, value_local}
use Rattle.pts_program.proofs.UsedNames.{AreLines, Owns, fitting_names, line_names, lines_back, lines_front}

-- ---- the names of each form

all-Assign : (at : Place) (x : Expr) → all_names (b.Assign at x) ≡ all_names_step (BodyStmt-F.Assign at x)
unfolding all_names
all-Assign at x = at-Assign (List Name) all_names_step at x

all-Let : (name : List ℕ) (x : Expr) → all_names (b.Let name x) ≡ all_names_step (BodyStmt-F.Let name x)
unfolding all_names
all-Let name x = at-Let (List Name) all_names_step name x

all-Combine : (name : List ℕ) (x : Expr) → all_names (b.Combine name x) ≡ all_names_step (BodyStmt-F.Combine name x)
unfolding all_names
all-Combine name x = at-Combine (List Name) all_names_step name x

all-If : (x : Expr) (xs : List BodyStmt) (ys : Option (List BodyStmt)) → all_names (b.If x xs ys) ≡ all_names_step (BodyStmt-F.If x (map all_names xs) (option_map (map all_names) ys))
unfolding all_names
all-If x xs ys = at-If (List Name) all_names_step x xs ys

all-VecOff : (xs : List BodyStmt) → all_names (b.VecOff xs) ≡ all_names_step (BodyStmt-F.VecOff (map all_names xs))
unfolding all_names
all-VecOff xs = at-VecOff (List Name) all_names_step xs

all-Ordered : (at : Place) (op : ScalarOp) (x : Expr) → all_names (b.Ordered at op x) ≡ all_names_step (BodyStmt-F.Ordered at op x)
unfolding all_names
all-Ordered at op x = at-Ordered (List Name) all_names_step at op x

-- ---- one local name more

pub owns_more : (scope outer : Scope) (ours : List Name) (x : Name) (m : Meaning) → IsLocal m → is_among x ours ≡ true → Owns scope outer ours → Owns ((x, m) ∷ scope) outer ours
owns_more scope outer ours x m l among h = record {
  constants = λ name z is.
      elim (bytes_eq name x) as (λ b. (if b then Some m else meaning_of scope name) ≡ Some (Constant z) → constant_of outer name ≡ Some z) [
        | true ↦ λ found. absurd (none-some z (sym l.constant ∙ ap (option_and_then as_constant) found))
        | false ↦ λ found. h.constants name z found
      ] is;
  values = λ name kind is. own name (Value kind) (h.values name kind) is;
  views = λ name kind is. own name (View kind) (h.views name kind) is;
  functions = λ name f is. own name (Function f) (h.functions name f) is;
  arrays = λ name kind size is. own name (Array kind size) (h.arrays name kind size) is;
}
  where
    own : (name : Name) (k : Meaning) → (meaning_of scope name ≡ Some k → is_among name ours ≡ true) → meaning_of ((x, m) ∷ scope) name ≡ Some k → is_among name ours ≡ true
    own name k old is =
        (elim (bytes_eq name x) as (λ b. bytes_eq name x ≡ b → (if b then Some m else meaning_of scope name) ≡ Some k → is_among name ours ≡ true) [
          | true ↦ λ same found. ap (λ n. is_among n ours) ((bytes_eq-Decides name x).0 same) ∙ among
          | false ↦ λ other found. old found
        ]) refl is

module _ (outer : Scope) (index : Option Name) (ours : List Name) (mine : (name : Name) → has (bytes_eq name) index ≡ true → is_among name ours ≡ true) where
  abbrev r : BodyStmt → BodyStmt
  r = resolved_stmt outer

  abbrev e : Expr → Expr
  e = resolved_expr outer

  abbrev Lines : List Place → Type 0
  Lines = AreLines outer index ours mine

  abbrev both : (xs ys : List Name) → AreOf ours xs → AreOf ours ys → AreOf ours (xs ++ ys)
  both xs ys = each.both (λ name. is_among name ours ≡ true) xs ys

  -- what is known of a statement, and of those behind it
  record HasNames (x : BodyStmt) (scope : Scope) : Type 0 where
    pub names : AreOf ours (all_names (r x))
    pub behind : Owns ((checked_stmt x).behind scope) outer ours

  abbrev Named : BodyStmt → Type 0
  Named x = (scope : Scope) → Owns scope outer ours → AreOf ours (lets x) → Lines (places x) → (checked_stmt x).right scope ≡ true → HasNames x scope

  made : (x : BodyStmt) (c : Checked) (names : List Name) (ps : List Place) (scope : Scope) → checked_stmt x ≡ c → all_names (r x) ≡ names → places x ≡ ps
      → (c.right scope ≡ true → Lines ps → AreOf ours names) → Owns (c.behind scope) outer ours → Lines (places x) → (checked_stmt x).right scope ≡ true → HasNames x scope
  made x c names ps scope was is at h behind lines right = record {
    names = subst (AreOf ours) (sym is) (h (sym (ap (λ (k : Checked). k.right scope) was) ∙ right) (subst Lines at lines));
    behind = subst (λ (k : Checked). Owns (k.behind scope) outer ours) (sym was) behind;
  }

  -- ---- names of arrays and views

  array_by : (scope : Scope) → Owns scope outer ours → (name : Name) (o : Option Meaning) (test : Kind → Bool) → meaning_of scope name ≡ o
      → has test (option_map (λ x. x.0) (option_and_then as_array o)) ≡ true → is_among name ours ≡ true
  array_by scope owns name None test is h = absurd (false≢true h)
  array_by scope owns name (Some (Constant z)) test is h = absurd (false≢true h)
  array_by scope owns name (Some (Array kind size)) test is h = owns.arrays name kind size is
  array_by scope owns name (Some (Function f)) test is h = absurd (false≢true h)
  array_by scope owns name (Some (Value kind)) test is h = absurd (false≢true h)
  array_by scope owns name (Some (View kind)) test is h = absurd (false≢true h)

  view_by : (scope : Scope) → Owns scope outer ours → (name : Name) (o : Option Meaning) (test : Kind → Bool) → meaning_of scope name ≡ o → has test (option_and_then as_view o) ≡ true → is_among name ours ≡ true
  view_by scope owns name None test is h = absurd (false≢true h)
  view_by scope owns name (Some (Constant z)) test is h = absurd (false≢true h)
  view_by scope owns name (Some (Array kind size)) test is h = absurd (false≢true h)
  view_by scope owns name (Some (Function f)) test is h = absurd (false≢true h)
  view_by scope owns name (Some (Value kind)) test is h = absurd (false≢true h)
  view_by scope owns name (Some (View kind)) test is h = owns.views name kind is

  -- the kind that the test holds of
  some_kind : (o : Option Kind) (test : Kind → Bool) (P : Type 0) → has test o ≡ true → ((kind : Kind) → test kind ≡ true → P) → P
  some_kind None test P h f = absurd (false≢true h)
  some_kind (Some kind) test P h f = f kind h

  fit : (scope : Scope) → Owns scope outer ours → (kind : Kind) (x : Expr) → fits true scope kind x ≡ true → Lines (elements x) → AreOf ours (expr_names (e x))
  fit scope owns kind x h lines = fitting_names outer index ours mine scope owns kind x h lines

  -- ---- statements

  abbrev inner_names : List BodyStmt → List Name
  inner_names xs = flat_map (λ y. y) (map all_names (map r xs))

  abbrev inner_places : List BodyStmt → List Place
  inner_places xs = flat_map (λ y. y) (map places xs)

  all_named : (xs : List BodyStmt) → AllStmts Named xs → (scope : Scope) → Owns scope outer ours → AreOf ours (flat_map (λ y. y) (map lets xs)) → Lines (inner_places xs)
      → all_right scope (map checked_stmt xs) ≡ true → AreOf ours (inner_names xs)
  all_named [] known scope owns local lines h = tt
  all_named (x ∷ xs) known scope owns local lines h =
      let parts = and_parts ((checked_stmt x).right scope) (all_right ((checked_stmt x).behind scope) (map checked_stmt xs)) h in
      let here =
      known.0 scope owns (each.front (λ name. is_among name ours ≡ true) (lets x) (flat_map (λ y. y) (map lets xs)) local)
      (lines_front outer index ours mine (places x) (inner_places xs) lines) parts.0 in
      both (all_names (r x)) (inner_names xs) here.names
      (all_named xs known.1 ((checked_stmt x).behind scope) here.behind (each.back (λ name. is_among name ours ≡ true) (lets x) (flat_map (λ y. y) (map lets xs)) local)
      (lines_back outer index ours mine (places x) (inner_places xs) lines) parts.1)

  else_named : (ys : Option (List BodyStmt)) → IfStmts Named ys → (scope : Scope) → Owns scope outer ours → AreOf ours (names_of (flat_map (λ y. y)) (option_map (map lets) ys)) → Lines (else_places (option_map (map places) ys))
      → if_there (all_right scope) (option_map (map checked_stmt) ys) ≡ true → AreOf ours (names_of (flat_map (λ y. y)) (option_map (map all_names) (option_map (map r) ys)))
  else_named None known scope owns local lines h = tt
  else_named (Some ys) known scope owns local lines h = all_named ys known scope owns local lines h

  if_named : (x : Expr) (xs : List BodyStmt) (ys : Option (List BodyStmt)) → AllStmts Named xs → IfStmts Named ys → Named (b.If x xs ys)
  if_named x xs ys known other scope owns local lines right =
      let own : AreOf ours (flat_map (λ y. y) (map lets xs) ++ names_of (flat_map (λ y. y)) (option_map (map lets) ys)) = subst (AreOf ours) (lets-If x xs ys) local in
      let first = each.front (λ name. is_among name ours ≡ true) (flat_map (λ y. y) (map lets xs)) (names_of (flat_map (λ y. y)) (option_map (map lets) ys)) own in
      let second = each.back (λ name. is_among name ours ≡ true) (flat_map (λ y. y) (map lets xs)) (names_of (flat_map (λ y. y)) (option_map (map lets) ys)) own in
      made (b.If x xs ys) _ _ _ scope (checked-If x xs ys) (ap all_names (stmt-If outer x xs ys) ∙ all-If (e x) (map r xs) (option_map (map r) ys)) (places-If x xs ys)
      (λ h at.
      let p2 = and_parts (fits true scope kinds.Bool x && all_right scope (map checked_stmt xs)) (if_there (all_right scope) (option_map (map checked_stmt) ys)) h in
      let p1 = and_parts (fits true scope kinds.Bool x) (all_right scope (map checked_stmt xs)) p2.0 in
      let front = lines_front outer index ours mine (elements x ++ inner_places xs) (else_places (option_map (map places) ys)) at in
      both (expr_names (e x) ++ inner_names xs) (names_of (flat_map (λ y. y)) (option_map (map all_names) (option_map (map r) ys)))
      (both (expr_names (e x)) (inner_names xs) (fit scope owns kinds.Bool x p1.0 (lines_front outer index ours mine (elements x) (inner_places xs) front))
      (all_named xs known scope owns first (lines_back outer index ours mine (elements x) (inner_places xs) front) p1.1))
      (else_named ys other scope owns second (lines_back outer index ours mine (elements x ++ inner_places xs) (else_places (option_map (map places) ys)) at) p2.1))
      owns lines right

  -- a place that is written, and the value for it
  written : (scope : Scope) → Owns scope outer ours → (at : Place) (x : Expr) (test : Kind → Bool) → ((kind : Kind) → test kind ≡ true → fits true scope kind x ≡ true)
      → has test (kind_of_array scope at.array) ≡ true → Lines ((at ∷ elements at.index) ++ elements x) → AreOf ours (place_names (resolved_place outer at) ++ expr_names (e x))
  written scope owns at x test asks h lines =
      let front = lines_front outer index ours mine (at ∷ elements at.index) (elements x) lines in
      both (place_names (resolved_place outer at)) (expr_names (e x))
      (array_by scope owns at.array (meaning_of scope at.array) test refl h, line_names outer index ours mine at (elements at.index) front)
      (some_kind (kind_of_array scope at.array) test (AreOf ours (expr_names (e x))) h
      (λ kind g. fit scope owns kind x (asks kind g) (lines_back outer index ours mine (at ∷ elements at.index) (elements x) lines)))

  forms : StmtForms Named
  forms = record {
    Assign = λ at x scope owns local lines right.
        made (b.Assign at x) _ _ _ scope (checked-Assign at x) (ap all_names (stmt-Assign outer at x) ∙ all-Assign (resolved_place outer at) (e x)) (places-Assign at x)
        (λ h ps. written scope owns at x (λ kind. fits true scope kind x) (λ kind g. g) h ps) owns lines right;
    Let = λ name x scope owns local lines right.
        let own : AreOf ours (name ∷ []) = subst (AreOf ours) (lets-Let name x) local in
        made (b.Let name x) _ _ _ scope (checked-Let name x) (ap all_names (stmt-Let outer name x) ∙ all-Let name (e x)) (places-Let name x)
        (λ h ps. (own.0, fit scope owns (let_kind scope x) x h ps)) (owns_more scope outer ours name (Value (let_kind scope x)) (value_local (let_kind scope x)) own.0 owns) lines right;
    Combine = λ name x scope owns local lines right.
        made (b.Combine name x) _ _ _ scope (checked-Combine name x) (ap all_names (stmt-Combine outer name x) ∙ all-Combine name (e x)) (places-Combine name x)
        (λ h ps. (
          view_by scope owns name (meaning_of scope name) (λ kind. fits true scope kind x) refl h,
          some_kind (view_of scope name) (λ kind. fits true scope kind x) (AreOf ours (expr_names (e x))) h (λ kind g. fit scope owns kind x g ps),
        )) owns lines right;
    If = if_named;
    VecOff = λ xs known scope owns local lines right.
        made (b.VecOff xs) _ _ _ scope (checked-VecOff xs) (ap all_names (stmt-VecOff outer xs) ∙ all-VecOff (map r xs)) (places-VecOff xs)
        (λ h ps. all_named xs known scope owns (subst (AreOf ours) (lets-VecOff xs) local) ps h) owns lines right;
    Ordered = λ at op x scope owns local lines right.
        made (b.Ordered at op x) _ _ _ scope (checked-Ordered at op x) (ap all_names (stmt-Ordered outer at op x) ∙ all-Ordered (resolved_place outer at) op (e x)) (places-Ordered at op x)
        (λ h ps. written scope owns at x (λ kind. is_number kind && fits true scope kind x) (λ kind g. (and_parts (is_number kind) (fits true scope kind x) g).1) h ps) owns lines right;
  }

  -- all statements of a body
  pub body_names : (xs : List BodyStmt) (scope : Scope) → Owns scope outer ours → AreOf ours (flat_map (λ y. y) (map lets xs)) → Lines (flat_map (λ y. y) (map places xs))
      → all_right scope (map checked_stmt xs) ≡ true → AreOf ours (flat_map (λ y. y) (map all_names (map r xs)))
  body_names xs scope owns local lines h = all_named xs (all_of_them Named (every_stmt Named forms) xs) scope owns local lines h
