-- What holds of the points of every expression, statement and item.
use Rattle.std.proofs.Common.{◌≡◌, ℕ, ◌+◌, Option, Some, None, List, [], ◌∷◌, map, refl, arith}
use Rattle.pts_types.specs.declared.operation.ScalarOp.{ScalarOp}
use Rattle.pts_tree.specs.declared.sum.Range.{Range}
use Rattle.pts_tree.specs.declared.sum.Cell.{Cell}
use Rattle.pts_tree.specs.declared.call.Call as call
use Rattle.pts_tree.specs.declared.call.CallForm.{CallForm}
use Rattle.pts_tree.specs.declared.call.CallForm.TheVariants as forms
use Rattle.pts_tree.specs.declared.expr.Expr.{Expr}
use Rattle.pts_tree.specs.declared.expr.Place.{Place}
use Rattle.pts_tree.specs.declared.loops.Loop as loops
use Rattle.pts_tree.specs.declared.loops.Clause.{Clause}
use Rattle.pts_tree.specs.declared.loops.Clause.TheVariants as clauses
use Rattle.pts_tree.specs.declared.loops.Initial.{Initial}
use Rattle.pts_tree.specs.declared.loops.Initial.TheVariants as initials
use Rattle.pts_tree.specs.declared.loops.BodyStmt.{BodyStmt}
use Rattle.pts_rules.specs.Parts.{Simple, Throw, Assign, Call, Loop}
use Rattle.pts_rules.specs.Known.{Scope}
use Rattle.pts_rules.specs.Counts.{reads}
use Rattle.pts_rules.specs.Indices.{affine_of, line_of}
use Rattle.pts_points.specs.declared.space.IterationSpace.{IterationSpace}
use Rattle.pts_points.specs.Lines.{no_loop, space_of}
use Rattle.pts_points.specs.Pieces.{Context, Along, Computed, Deed, Piece, nothing, sequence, served, served_off, alone, binding, branching}
use Rattle.pts_points.specs.Points.{index_kind, index_of, reads_of, both_reads, assign_deed, update_deed, kind_of_let, stmt_piece, body_piece, live_out, initial_piece, clause_piece, loop_piece, source_piece, target_piece, answer_piece, piece_of, own_piece, call_piece, statement_piece}
use Rattle.pts_points.specs.Standings.{IndexEnds}
use Rattle.pts_points.proofs.ReadForms.{by_reads}
use Rattle.pts_points.proofs.StatementForms.{by_stmts, note_deed, give_deed, test_deed}
use Rattle.pts_points.proofs.Standing.{AllEnd, Owes, Good, good_nothing, good_behind, good_served, good_served_off, good_off_vector, good_binding, good_branching}

-- an expression has as many Reads as the rules count
pub counted : (scope : Scope) (space : IterationSpace) (x : Expr) → (reads_of scope space x).size ≡ reads x
counted scope space =
    by_reads scope space (λ places n x. x.size ≡ n) refl
    (λ xs ys m n x y h k. omega (arith, h, k))
    (λ name x h. omega (arith, h))

-- ---- the Reads end where what they serve stands

ends_here : (scope : Scope) (space : IterationSpace) (x : Expr) (n : ℕ) → n + reads x ≡ n + (reads_of scope space x).size
ends_here scope space x n = let h = counted scope space x in omega (arith, h)

pub index_ends : (scope : Scope) (space : IterationSpace) (x : Expr) (context : Context) (n : ℕ)
    → IndexEnds (index_of scope space x context n) (n + (reads_of scope space x).size)
index_ends scope space x context n =
    elim (affine_of scope space.index x) as (λ o. IndexEnds (elim o [
      | None ↦ Computed (record { kind = index_kind context x; first = n; expr = x })
      | Some affine ↦ Along (line_of space.first space.step space.positions affine)
    ]) (n + (reads_of scope space x).size)) [ None ↦ ends_here scope space x n | Some affine ↦ tt ]

value_ends : (scope : Scope) (space : IterationSpace) (at : Place) (x : Expr) (n : ℕ)
    → n + (reads_of scope space at.index).size + reads x ≡ n + (both_reads scope space at x).size
value_ends scope space at x n = let h = counted scope space x in omega (arith, h)

-- ---- expressions and bodies

module _ (scope : Scope) (space : IterationSpace) where
  pub good_reads : (x : Expr) → Good (reads_of scope space x)
  good_reads =
      by_reads scope space (λ places n x. Good x) good_nothing
      (λ xs ys m n x y g h. good_behind x y g h)
      (λ name x g. good_served (reads_of scope space x) _ g (λ context n. (index_ends scope space x context n, tt)))

  pub good_both : (at : Place) (x : Expr) → Good (both_reads scope space at x)
  good_both at x = good_behind (reads_of scope space at.index) (reads_of scope space x) (good_reads at.index) (good_reads x)

  both_end : (at : Place) (x : Expr) → AllEnd (both_reads scope space at x) (assign_deed scope space at x)
  both_end at x = λ context n. ((index_ends scope space at.index context n, value_ends scope space at x n), tt)

  -- what every statement of a body keeps
  abbrev IsGood : List Place → ℕ → Piece → Type 0
  IsGood places n x = Good x

  pub notes_good : (name : List ℕ) (x : Expr) → Good (binding name (kind_of_let x) (reads_of scope space x) (note_deed x))
  notes_good name x = good_binding name (kind_of_let x) (reads_of scope space x) (note_deed x) (good_reads x) (λ context n. (ends_here scope space x n, tt))

  pub tests_good : (x : Expr) → Good (served (reads_of scope space x) (test_deed x))
  tests_good x = good_served (reads_of scope space x) (test_deed x) (good_reads x) (λ context n. (ends_here scope space x n, tt))

  pub gives_good : (name : List ℕ) (x : Expr) → Good (served (reads_of scope space x) (give_deed name x))
  gives_good name x = good_served (reads_of scope space x) (give_deed name x) (good_reads x) (λ context n. (ends_here scope space x n, tt))

  pub branches_good : (c : Expr) (x y : Piece) → Good x → Good y → Good (branching (reads_of scope space c) (test_deed c) x y)
  branches_good c x y g h = good_branching (reads_of scope space c) (test_deed c) x y (good_reads c) (λ context n. (ends_here scope space c n, tt)) g h

  pub assigns_good : (at : Place) (x : Expr) → Good (served (both_reads scope space at x) (assign_deed scope space at x))
  assigns_good at x = good_served (both_reads scope space at x) (assign_deed scope space at x) (good_both at x) (both_end at x)

  pub updates_good : (at : Place) (op : ScalarOp) (x : Expr) → Good (served_off (both_reads scope space at x) (update_deed scope space at op x))
  updates_good at op x =
      good_served_off (both_reads scope space at x) (update_deed scope space at op x) (good_both at x)
      (λ context n. ((index_ends scope space at.index context n, value_ends scope space at x n), tt))

  pub good_stmt : (x : BodyStmt) → Good (stmt_piece scope space x)
  good_stmt =
      by_stmts scope space IsGood good_nothing (λ xs ys m n x y g h. good_behind x y g h) assigns_good notes_good gives_good
      (λ c xs ys m n x y g h. branches_good c x y g h) (λ xs n x g. good_off_vector x g) updates_good

  pub good_body : (xs : List BodyStmt) → Good (body_piece scope space xs)
  good_body [] = good_nothing
  good_body (x ∷ xs) = good_behind (stmt_piece scope space x) (body_piece scope space xs) (good_stmt x) (good_body xs)

-- ---- statements

good_alone : (deed : Deed) → ((n : ℕ) → Owes deed n) → Good (alone deed)
good_alone deed ends = good_served nothing (λ context n. deed) good_nothing (λ context n. ends (n + 0))

module _ (scope : Scope) where
  good_live_out : (x : Cell) → Good (live_out scope x)
  good_live_out x = good_alone _ (λ n. (tt, (refl, refl)))

  pub good_clause : (x : Clause) → Good (clause_piece scope x)
  good_clause (clauses.Reduce x) = good_live_out x.cell
  good_clause (clauses.Induct x) = by_initial x.initial
    where
      by_initial : (y : Initial) → Good (initial_piece scope y)
      by_initial (initials.Val y) = good_nothing
      by_initial (initials.Cell y) = good_live_out y

  pub good_clauses : (xs : List Clause) → Good (sequence (map (clause_piece scope) xs))
  good_clauses [] = good_nothing
  good_clauses (x ∷ xs) = good_behind (clause_piece scope x) (sequence (map (clause_piece scope) xs)) (good_clause x) (good_clauses xs)

  pub good_loop : (x : loops.Loop) → Good (loop_piece scope x)
  good_loop x = good_behind (sequence (map (clause_piece scope) x.clauses)) (body_piece scope (space_of scope x) x.body) (good_clauses x.clauses) (good_body scope (space_of scope x) x.body)

  pub good_source : (x : Range) → Good (source_piece scope x)
  good_source x = good_alone _ (λ n. (tt, tt))

  pub good_target : (x : Range) → Good (target_piece scope x)
  good_target x = good_alone _ (λ n. (tt, tt))

  pub good_answer : (x : Cell) → Good (answer_piece scope x)
  good_answer x = good_alone _ (λ n. (tt, (refl, refl)))

  pub good_piece_of : {A : Type 0} (f : A → Piece) → ((x : A) → Good (f x)) → (x : Option A) → Good (piece_of f x)
  good_piece_of f good None = good_nothing
  good_piece_of f good (Some x) = good x

  pub good_own : (form : CallForm) (x : Range) → Good (own_piece scope form x)
  good_own forms.ForEach x = good_target x
  good_own forms.Transform x = good_nothing
  good_own forms.FindIf x = good_nothing
  good_own forms.CountIf x = good_nothing
  good_own forms.Reduce x = good_nothing
  good_own forms.TransformReduce x = good_nothing
  good_own forms.InclusiveScan x = good_nothing
  good_own forms.ExclusiveScan x = good_nothing
  good_own forms.TransformInclusiveScan x = good_nothing
  good_own forms.TransformExclusiveScan x = good_nothing

  pub good_call : (x : call.Call) → Good (call_piece scope x)
  good_call x =
      good_behind _ _
      (good_behind _ _ (good_source x.first) (good_piece_of (source_piece scope) good_source x.second))
      (good_behind _ _ (good_own x.form x.first)
      (good_behind _ _ (good_piece_of (target_piece scope) good_target x.target) (good_piece_of (answer_piece scope) good_answer x.store)))

  pub good_statement : (x : Simple) → Good (statement_piece scope x)
  good_statement (Throw n) = good_nothing
  good_statement (Assign at x) = good_served (reads_of scope no_loop x) _ (good_reads scope no_loop x) (λ context n. ((tt, ends_here scope no_loop x n), tt))
  good_statement (Call x) = good_call x
  good_statement (Loop x) = good_loop x
