-- The places that a loop which is right reads and writes, and whose indices are lines, are those of arrays in scope.
use Rattle.std.proofs.Common.{◌≡◌, Bool, true, false, ◌&&◌, if◌then◌else◌, Option, Some, None, List, [], ◌∷◌, ◌++◌, fold, map, option_map, option_and_then, bytes_eq, refl, sym, ap, ◌∙◌, subst}
use Rattle.std.specs.Prelude.{flat_map, is_some}
use Rattle.std.proofs.lemmas.Bool.{and_parts, false≢true}
use Rattle.pts_types.specs.declared.value.Kind.{Kind}
use Rattle.pts_types.specs.declared.value.Kind.TheVariants as kinds
use Rattle.pts_tree.specs.Spelling.{if_there}
use Rattle.pts_tree.specs.declared.expr.Expr.{Expr}
use Rattle.pts_tree.specs.declared.expr.Place.{Place}
use Rattle.pts_tree.specs.declared.loops.BodyStmt.{BodyStmt}
use Rattle.pts_tree.specs.declared.loops.BodyStmt.TheVariants as b
use Rattle.pts_tree.specs.declared.loops.Clause.{Clause}
use Rattle.pts_tree.specs.declared.loops.Clause.TheVariants as clauses
use Rattle.pts_tree.specs.declared.loops.Loop as loops
use Rattle.pts_rules.specs.declared.meaning.Meaning.{Meaning}
use Rattle.pts_rules.specs.declared.meaning.Meaning.TheVariants.{Value, View}
use Rattle.pts_rules.specs.Indices.{elements, else_places, has_not_affine, places}
use Rattle.pts_rules.specs.Kinds.{fits, let_kind}
use Rattle.pts_rules.specs.Known.{Scope, as_array, has, is_number, kind_of_array, meaning_of, view_of}
use Rattle.pts_rules.specs.Mistyped.{Checked, all_right, body_scope, checked_stmt, clause_entries, loop_right}
use Rattle.pts_rules.specs.Parts.{Name, Loop}
use Rattle.pts_rules.proofs.Bodies.{checked-Assign, checked-Let, checked-Combine, checked-If, checked-VecOff, checked-Ordered, places-Assign, places-Let, places-Combine, places-If, places-VecOff, places-Ordered}
use Rattle.pts_points.proofs.Each.{Each}
use Rattle.pts_points.proofs.Each as each
use Rattle.pts_program.proofs.BodyForms.{AllStmts, IfStmts, StmtForms, all_of_them, every_stmt}
use Rattle.pts_loop_points.proofs.ElementArrays.{AreLines, AreOfArrays, IsArray, IsOfArray, first_index, fitting_arrays, lines_back, lines_front}

-- ---- local names hide arrays and make none

local_hides : (scope : Scope) (x : Name) (m : Meaning) → as_array m ≡ None → (name : Name) → IsArray ((x, m) ∷ scope) name → IsArray scope name
local_hides scope x m none name h =
    elim (bytes_eq name x) as (λ b. is_some (option_map (λ a. a.0) (option_and_then as_array (if b then Some m else meaning_of scope name))) ≡ true → IsArray scope name) [
      | true ↦ λ found. absurd (false≢true (sym (ap (λ o. is_some (option_map (λ a. a.0) o)) none) ∙ found))
      | false ↦ λ found. found
    ] h

-- what is an array among these names is one among those
abbrev ArraysOf : Scope → Scope → Type 0
ArraysOf inner scope = (name : Name) → IsArray inner name → IsArray scope name

arrays_before : (inner scope : Scope) → ArraysOf inner scope → (ps : List Place) → AreOfArrays inner ps → AreOfArrays scope ps
arrays_before inner scope kept ps h = each.weaker (IsOfArray inner) (IsOfArray scope) (λ at. kept at.array) ps h

clause_hides : (scope entries : Scope) (c : Clause) → ArraysOf (clause_entries scope c ++ entries) entries
clause_hides scope entries (clauses.Reduce x) name h =
    elim (kind_of_array scope x.cell.array) as (λ o. IsArray ((elim o [ None ↦ [] | Some kind ↦ (x.view, View kind) ∷ [] ]) ++ entries) name → IsArray entries name) [
      | None ↦ λ found. found
      | Some kind ↦ λ found. local_hides entries x.view (View kind) refl name found
    ] h
clause_hides scope entries (clauses.Induct x) name h = local_hides entries x.name (Value x.kind) refl name h

clauses_hide : (scope : Scope) (cs : List Clause) (entries : Scope) → ArraysOf (fold (λ entries c. clause_entries scope c ++ entries) entries cs) entries
clauses_hide scope [] entries name h = h
clauses_hide scope (c ∷ cs) entries name h = clause_hides scope entries c name (clauses_hide scope cs (clause_entries scope c ++ entries) name h)

head_hides : (scope : Scope) (x : loops.Loop) → ArraysOf (body_scope scope x) scope
head_hides scope x name h =
    clauses_hide scope x.clauses scope name (local_hides (fold (λ entries c. clause_entries scope c ++ entries) scope x.clauses) x.index (Value kinds.I64) refl name h)

-- ---- statements

module _ (outer : Scope) (index : Option Name) where
  abbrev Lines : List Place → Type 0
  Lines = AreLines outer index

  -- what is known of a statement, and of those behind it
  record HasArrays (x : BodyStmt) (scope : Scope) : Type 0 where
    pub arrays : AreOfArrays scope (places x)
    pub behind : ArraysOf ((checked_stmt x).behind scope) scope

  abbrev Known : BodyStmt → Type 0
  Known x = (scope : Scope) → Lines (places x) → (checked_stmt x).right scope ≡ true → HasArrays x scope

  made : (x : BodyStmt) (c : Checked) (ps : List Place) (scope : Scope) → checked_stmt x ≡ c → places x ≡ ps
      → (c.right scope ≡ true → Lines ps → AreOfArrays scope ps) → ArraysOf (c.behind scope) scope → Lines (places x) → (checked_stmt x).right scope ≡ true → HasArrays x scope
  made x c ps scope was at h behind lines right = record {
    arrays = subst (AreOfArrays scope) (sym at) (h (sym (ap (λ (k : Checked). k.right scope) was) ∙ right) (subst Lines at lines));
    behind = subst (λ (k : Checked). ArraysOf (k.behind scope) scope) (sym was) behind;
  }

  both : (scope : Scope) (xs ys : List Place) → AreOfArrays scope xs → AreOfArrays scope ys → AreOfArrays scope (xs ++ ys)
  both scope xs ys = each.both (IsOfArray scope) xs ys

  -- the kind that the test holds of
  some_kind : (o : Option Kind) (test : Kind → Bool) (P : Type 0) → has test o ≡ true → ((kind : Kind) → test kind ≡ true → P) → P
  some_kind None test P h f = absurd (false≢true h)
  some_kind (Some kind) test P h f = f kind h

  there : (o : Option Kind) (test : Kind → Bool) → has test o ≡ true → is_some o ≡ true
  there None test h = absurd (false≢true h)
  there (Some kind) test h = refl

  fit : (scope : Scope) (kind : Kind) (x : Expr) → fits true scope kind x ≡ true → Lines (elements x) → AreOfArrays scope (elements x)
  fit scope kind x h lines = fitting_arrays outer index scope kind x h lines

  abbrev inner_places : List BodyStmt → List Place
  inner_places xs = flat_map (λ y. y) (map places xs)

  all_arrays : (xs : List BodyStmt) → AllStmts Known xs → (scope : Scope) → Lines (inner_places xs) → all_right scope (map checked_stmt xs) ≡ true → AreOfArrays scope (inner_places xs)
  all_arrays [] known scope lines h = tt
  all_arrays (x ∷ xs) known scope lines h =
      let next = (checked_stmt x).behind scope in
      let parts = and_parts ((checked_stmt x).right scope) (all_right next (map checked_stmt xs)) h in
      let here = known.0 scope (lines_front outer index (places x) (inner_places xs) lines) parts.0 in
      both scope (places x) (inner_places xs) here.arrays
      (arrays_before next scope here.behind (inner_places xs) (all_arrays xs known.1 next (lines_back outer index (places x) (inner_places xs) lines) parts.1))

  else_arrays : (ys : Option (List BodyStmt)) → IfStmts Known ys → (scope : Scope) → Lines (else_places (option_map (map places) ys))
      → if_there (all_right scope) (option_map (map checked_stmt) ys) ≡ true → AreOfArrays scope (else_places (option_map (map places) ys))
  else_arrays None known scope lines h = tt
  else_arrays (Some ys) known scope lines h = all_arrays ys known scope lines h

  if_arrays : (x : Expr) (xs : List BodyStmt) (ys : Option (List BodyStmt)) → AllStmts Known xs → IfStmts Known ys → Known (b.If x xs ys)
  if_arrays x xs ys known other scope lines right =
      made (b.If x xs ys) _ _ scope (checked-If x xs ys) (places-If x xs ys)
      (λ h at.
      let p2 = and_parts (fits true scope kinds.Bool x && all_right scope (map checked_stmt xs)) (if_there (all_right scope) (option_map (map checked_stmt) ys)) h in
      let p1 = and_parts (fits true scope kinds.Bool x) (all_right scope (map checked_stmt xs)) p2.0 in
      let front = lines_front outer index (elements x ++ inner_places xs) (else_places (option_map (map places) ys)) at in
      both scope (elements x ++ inner_places xs) (else_places (option_map (map places) ys))
      (both scope (elements x) (inner_places xs) (fit scope kinds.Bool x p1.0 (lines_front outer index (elements x) (inner_places xs) front))
      (all_arrays xs known scope (lines_back outer index (elements x) (inner_places xs) front) p1.1))
      (else_arrays ys other scope (lines_back outer index (elements x ++ inner_places xs) (else_places (option_map (map places) ys)) at) p2.1))
      (λ name h. h) lines right

  -- a place that is written, and the value for it
  written : (scope : Scope) (at : Place) (x : Expr) (test : Kind → Bool) → ((kind : Kind) → test kind ≡ true → fits true scope kind x ≡ true)
      → has test (kind_of_array scope at.array) ≡ true → Lines ((at ∷ elements at.index) ++ elements x) → AreOfArrays scope ((at ∷ elements at.index) ++ elements x)
  written scope at x test asks h lines =
      let front = lines_front outer index (at ∷ elements at.index) (elements x) lines in
      both scope (at ∷ elements at.index) (elements x)
      (there (kind_of_array scope at.array) test h, subst (AreOfArrays scope) (sym (first_index outer index at (elements at.index) front)) tt)
      (some_kind (kind_of_array scope at.array) test (AreOfArrays scope (elements x)) h
      (λ kind g. fit scope kind x (asks kind g) (lines_back outer index (at ∷ elements at.index) (elements x) lines)))

  forms : StmtForms Known
  forms = record {
    Assign = λ at x scope lines right.
        made (b.Assign at x) _ _ scope (checked-Assign at x) (places-Assign at x)
        (λ h ps. written scope at x (λ kind. fits true scope kind x) (λ kind g. g) h ps) (λ name h. h) lines right;
    Let = λ name x scope lines right.
        made (b.Let name x) _ _ scope (checked-Let name x) (places-Let name x)
        (λ h ps. fit scope (let_kind scope x) x h ps) (local_hides scope name (Value (let_kind scope x)) refl) lines right;
    Combine = λ name x scope lines right.
        made (b.Combine name x) _ _ scope (checked-Combine name x) (places-Combine name x)
        (λ h ps. some_kind (view_of scope name) (λ kind. fits true scope kind x) (AreOfArrays scope (elements x)) h (λ kind g. fit scope kind x g ps)) (λ name h. h) lines right;
    If = if_arrays;
    VecOff = λ xs known scope lines right.
        made (b.VecOff xs) _ _ scope (checked-VecOff xs) (places-VecOff xs) (λ h ps. all_arrays xs known scope ps h) (λ name h. h) lines right;
    Ordered = λ at op x scope lines right.
        made (b.Ordered at op x) _ _ scope (checked-Ordered at op x) (places-Ordered at op x)
        (λ h ps. written scope at x (λ kind. is_number kind && fits true scope kind x) (λ kind g. (and_parts (is_number kind) (fits true scope kind x) g).1) h ps) (λ name h. h) lines right;
  }

  joined : (xs : List BodyStmt) → flat_map (λ y. y) (map places xs) ≡ flat_map places xs
  joined [] = refl
  joined (x ∷ xs) = ap (λ ys. places x ++ ys) (joined xs)

  body_arrays : (xs : List BodyStmt) (scope : Scope) → Lines (flat_map places xs) → all_right scope (map checked_stmt xs) ≡ true → AreOfArrays scope (flat_map places xs)
  body_arrays xs scope lines h =
      subst (AreOfArrays scope) (joined xs) (all_arrays xs (all_of_them Known (every_stmt Known forms) xs) scope (subst Lines (sym (joined xs)) lines) h)

-- ---- loops

-- the places of a loop are those of arrays that are known where it stands
pub loop_arrays : (scope : Scope) (x : loops.Loop) → has_not_affine scope (Loop x) ≡ false → loop_right scope x ≡ true → AreOfArrays scope (flat_map places x.body)
loop_arrays scope x lines right =
    arrays_before (body_scope scope x) scope (head_hides scope x) (flat_map places x.body)
    (body_arrays scope (Some x.index) x.body (body_scope scope x) lines (and_parts _ (all_right (body_scope scope x) (map checked_stmt x.body)) right).1)
