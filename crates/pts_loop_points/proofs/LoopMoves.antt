-- The points of a loop without constants, behind those that stand before them in an item.
use Rattle.std.proofs.Common.{◌≡◌, ℕ, ◌+◌, true, false, Option, Some, None, List, [], ◌∷◌, ◌++◌, map, refl, sym, ap, subst, ◌∙◌, arith}
use Rattle.std.specs.Prelude.{flat_map, is_none, is_some, slice_get}
use Rattle.std.specs.List.{list_any}
use Rattle.std.specs.Str.{bytes_eq}
use Rattle.std.proofs.lemmas.Bool.{or_parts}
use Rattle.std.proofs.lemmas.Slice.Eq.{bytes_eq-Decides}
use Rattle.pts_types.specs.declared.operation.ScalarOp.{ScalarOp}
use Rattle.pts_affine.specs.declared.line.Line.{Line}
use Rattle.pts_tree.specs.declared.expr.Expr.{Expr}
use Rattle.pts_tree.specs.declared.expr.Place.{Place}
use Rattle.pts_tree.specs.declared.loops.BodyStmt.{BodyStmt, roll-BodyStmt}
use Rattle.pts_tree.specs.declared.loops.BodyStmt.TheOpen.{BodyStmt-F}
use Rattle.pts_tree.specs.declared.loops.BodyStmt.TheVariants as b
use Rattle.pts_tree.specs.declared.loops.BodyStmt.TheFolds.{map-BodyStmt, ind-BodyStmt}
use Rattle.pts_tree.specs.declared.loops.Clause.{Clause}
use Rattle.pts_tree.specs.declared.loops.Clause.TheVariants as clauses
use Rattle.pts_tree.specs.declared.loops.Initial.{Initial}
use Rattle.pts_tree.specs.declared.loops.Initial.TheVariants as initials
use Rattle.pts_tree.specs.declared.loops.Loop as loops
use Rattle.pts_rules.specs.Known.{Scope, constant_of}
use Rattle.pts_rules.specs.Known as known
use Rattle.pts_rules.specs.Indices.{affine_of, elements, index_not_affine, places}
use Rattle.pts_rules.specs.Parts.{Name, Loop}
use Rattle.pts_rules.proofs.Bodies as bodies
use Rattle.pts_constants.specs.Resolved.{resolved_expr, resolved_loop, resolved_place, resolved_stmt}
use Rattle.pts_constants.proofs.ResolvedStatements as res
use Rattle.pts_points.specs.declared.point.PointForm.TheVariants as point_forms
use Rattle.pts_points.specs.declared.space.IterationSpace.{IterationSpace}
use Rattle.pts_points.specs.Building.{line_of_index}
use Rattle.pts_points.specs.Lines.{line_of_cell, no_line, space_of}
use Rattle.pts_points.specs.Pieces.{LivesOut, Piece, Point, alone, nothing, sequence}
use Rattle.pts_points.specs.Points.{array_at, info, initial_piece, reads_of, both_reads, assign_deed, update_deed, kind_of_let, stmt_piece, body_piece, clause_piece, loop_piece, context_of}
use Rattle.pts_points.proofs.Each.{Each, at_place, front, back}
use Rattle.pts_points.proofs.ReadTurns.{index_shown}
use Rattle.pts_points.proofs.StatementForms as forms
use Rattle.pts_points.proofs.StatementForms.{note_deed, give_deed, test_deed}
use Rattle.pts_steps.specs.Shown.{IsLoopOf}
use Rattle.pts_steps.specs.Steps.{loop_points}
use Rattle.pts_steps.proofs.AffineKept.{line_kept}
use Rattle.pts_steps.proofs.LoopsShown.{shows_the_same}
use Rattle.pts_loop_points.specs.LoopPoints.{IsOnLine, moved}
use Rattle.pts_loop_points.proofs.Moves.{Moves, OnLine, Steady, moves_behind, moves_binding, moves_branching, moves_nothing, moves_off_vector, moves_served, moves_served_off}
use Rattle.pts_loop_points.proofs.ReadMoves.{on_line, reads_move}

module _ (scope names : Scope) (space : IterationSpace) (item : ℕ) (call : Option ℕ) (a o : ℕ) where
  abbrev r : Expr → Expr
  r = resolved_expr scope

  abbrev s : BodyStmt → BodyStmt
  s = resolved_stmt scope

  abbrev Goes : Piece → Type 0
  Goes = Moves item call a o

  -- the index is a line without constants
  abbrev IsAffine : Place → Type 0
  IsAffine at = is_some (affine_of names space.index (r at.index)) ≡ true

  abbrev AreAffine : List Place → Type 0
  AreAffine ats = Each IsAffine ats

  abbrev plain : BodyStmt → Piece
  plain = stmt_piece names space

  reads_go : (x : Expr) → AreAffine (elements x) → Goes (reads_of names space (r x))
  reads_go = reads_move scope names space item call a o

  both_go : (at : Place) (x : Expr) → AreAffine (elements at.index) → AreAffine (elements x) → Goes (both_reads names space (resolved_place scope at) (r x))
  both_go at x h k = moves_behind item call a o (reads_of names space (r at.index)) (reads_of names space (r x)) (reads_go at.index h) (reads_go x k)

  assign_steady : (at : Place) (x : Expr) → IsAffine at → Steady (assign_deed names space (resolved_place scope at) (r x))
  assign_steady at x h =
      record {
        form = point_forms.Write;
        array = array_at names at.array;
        line = line_of_index names space (r at.index);
        same_form = λ c n. refl;
        same_array = λ c n. refl;
        same_line = λ c n. index_shown names space (r at.index) c n;
        on_line = λ c n. on_line names space (r at.index) c n h;
      }

  update_steady : (at : Place) (op : ScalarOp) (x : Expr) → IsAffine at → Steady (update_deed names space (resolved_place scope at) op (r x))
  update_steady at op x h =
      record {
        form = point_forms.Update;
        array = array_at names at.array;
        line = line_of_index names space (r at.index);
        same_form = λ c n. refl;
        same_array = λ c n. refl;
        same_line = λ c n. index_shown names space (r at.index) c n;
        on_line = λ c n. on_line names space (r at.index) c n h;
      }

  note_steady : (x : Expr) → Steady (note_deed x)
  note_steady x = record { form = point_forms.Plain; array = 0; line = no_line; same_form = λ c n. refl; same_array = λ c n. refl; same_line = λ c n. refl; on_line = λ c n. tt }

  give_steady : (name : Name) (x : Expr) → Steady (give_deed name x)
  give_steady name x = record { form = point_forms.Plain; array = 0; line = no_line; same_form = λ c n. refl; same_array = λ c n. refl; same_line = λ c n. refl; on_line = λ c n. tt }

  test_steady : (x : Expr) → Steady (test_deed x)
  test_steady x = record { form = point_forms.Plain; array = 0; line = no_line; same_form = λ c n. refl; same_array = λ c n. refl; same_line = λ c n. refl; on_line = λ c n. tt }

  abbrev Holds : BodyStmt → Type 0
  Holds x = AreAffine (places x) → Goes (plain (s x))

  abbrev Known : Type 0
  Known = (x : BodyStmt) × Holds x

  abbrev firsts : List Known → List BodyStmt
  firsts ys = map (λ (y : Known). y.0) ys

  abbrev plain_body : List BodyStmt → Piece
  plain_body xs = body_piece names space (map s xs)

  said : (x y : BodyStmt) (p : Piece) → s x ≡ y → plain y ≡ p → Goes p → Goes (plain (s x))
  said x y p is piece h = subst Goes (sym (ap plain is ∙ piece)) h

  all_known : (ys : List Known) → AreAffine (flat_map (λ z. z) (map places (firsts ys))) → Goes (plain_body (firsts ys))
  all_known [] h = moves_nothing item call a o
  all_known (y ∷ ys) h =
      let rest = flat_map (λ z. z) (map places (firsts ys)) in
      moves_behind item call a o (plain (s y.0)) (plain_body (firsts ys)) (y.1 (front IsAffine (places y.0) rest h)) (all_known ys (back IsAffine (places y.0) rest h))

  by_form : (y : BodyStmt-F Known) → Holds (roll-BodyStmt (map-BodyStmt Known BodyStmt (λ z. z.0) y))
  by_form (BodyStmt-F.Assign at x) =
      subst Holds (sym (b.rolls-Assign at x)) (λ h.
      let all = subst AreAffine (bodies.places-Assign at x) h in
      let place = front IsAffine (at ∷ elements at.index) (elements x) all in
      said (b.Assign at x) (b.Assign (resolved_place scope at) (r x)) _ (res.stmt-Assign scope at x) (forms.stmt-Assign names space (resolved_place scope at) (r x))
      (moves_served item call a o (both_reads names space (resolved_place scope at) (r x)) (assign_deed names space (resolved_place scope at) (r x))
      (both_go at x place.1 (back IsAffine (at ∷ elements at.index) (elements x) all)) (assign_steady at x place.0)))
  by_form (BodyStmt-F.Let name x) =
      subst Holds (sym (b.rolls-Let name x)) (λ h.
      said (b.Let name x) (b.Let name (r x)) _ (res.stmt-Let scope name x) (forms.stmt-Let names space name (r x))
      (moves_binding item call a o (reads_of names space (r x)) (note_deed (r x)) (reads_go x (subst AreAffine (bodies.places-Let name x) h)) (note_steady (r x)) name (kind_of_let (r x))))
  by_form (BodyStmt-F.Combine name x) =
      subst Holds (sym (b.rolls-Combine name x)) (λ h.
      said (b.Combine name x) (b.Combine name (r x)) _ (res.stmt-Combine scope name x) (forms.stmt-Combine names space name (r x))
      (moves_served item call a o (reads_of names space (r x)) (give_deed name (r x)) (reads_go x (subst AreAffine (bodies.places-Combine name x) h)) (give_steady name (r x))))
  by_form (BodyStmt-F.If x ys None) =
      let xs = firsts ys in
      subst Holds (sym (b.rolls-If x xs None)) (λ h.
      let body_places = flat_map (λ z. z) (map places xs) in
      let all = subst AreAffine (bodies.places-If x xs None) h in
      let both = front IsAffine (elements x ++ body_places) [] all in
      said (b.If x xs None) (b.If (r x) (map s xs) None) _ (res.stmt-If scope x xs None) (forms.stmt-If names space (r x) (map s xs) None)
      (moves_branching item call a o (reads_of names space (r x)) (test_deed (r x)) (reads_go x (front IsAffine (elements x) body_places both)) (test_steady (r x)) (plain_body xs) nothing
      (all_known ys (back IsAffine (elements x) body_places both)) (moves_nothing item call a o)))
  by_form (BodyStmt-F.If x ys (Some zs)) =
      let xs = firsts ys in
      let us = firsts zs in
      subst Holds (sym (b.rolls-If x xs (Some us))) (λ h.
      let body_places = flat_map (λ z. z) (map places xs) in
      let else_places = flat_map (λ z. z) (map places us) in
      let all = subst AreAffine (bodies.places-If x xs (Some us)) h in
      let both = front IsAffine (elements x ++ body_places) else_places all in
      said (b.If x xs (Some us)) (b.If (r x) (map s xs) (Some (map s us))) _ (res.stmt-If scope x xs (Some us)) (forms.stmt-If names space (r x) (map s xs) (Some (map s us)))
      (moves_branching item call a o (reads_of names space (r x)) (test_deed (r x)) (reads_go x (front IsAffine (elements x) body_places both)) (test_steady (r x)) (plain_body xs) (plain_body us)
      (all_known ys (back IsAffine (elements x) body_places both)) (all_known zs (back IsAffine (elements x ++ body_places) else_places all))))
  by_form (BodyStmt-F.VecOff ys) =
      let xs = firsts ys in
      subst Holds (sym (b.rolls-VecOff xs)) (λ h.
      said (b.VecOff xs) (b.VecOff (map s xs)) _ (res.stmt-VecOff scope xs) (forms.stmt-VecOff names space (map s xs))
      (moves_off_vector item call a o (plain_body xs) (all_known ys (subst AreAffine (bodies.places-VecOff xs) h))))
  by_form (BodyStmt-F.Ordered at op x) =
      subst Holds (sym (b.rolls-Ordered at op x)) (λ h.
      let all = subst AreAffine (bodies.places-Ordered at op x) h in
      let place = front IsAffine (at ∷ elements at.index) (elements x) all in
      said (b.Ordered at op x) (b.Ordered (resolved_place scope at) op (r x)) _ (res.stmt-Ordered scope at op x) (forms.stmt-Ordered names space (resolved_place scope at) op (r x))
      (moves_served_off item call a o (both_reads names space (resolved_place scope at) (r x)) (update_deed names space (resolved_place scope at) op (r x))
      (both_go at x place.1 (back IsAffine (at ∷ elements at.index) (elements x) all)) (update_steady at op x place.0)))

  stmt_goes : (x : BodyStmt) → Holds x
  stmt_goes = ind-BodyStmt Holds (λ x y is. subst (λ z. Holds (roll-BodyStmt z)) is (by_form y))

  pub body_moves : (xs : List BodyStmt) → AreAffine (flat_map places xs) → Goes (plain_body xs)
  body_moves [] h = moves_nothing item call a o
  body_moves (x ∷ xs) h =
      moves_behind item call a o (plain (s x)) (plain_body xs) (stmt_goes x (front IsAffine (places x) (flat_map places xs) h)) (body_moves xs (back IsAffine (places x) (flat_map places xs) h))

-- ---- clauses

module _ (names : Scope) (item : ℕ) (call : Option ℕ) (a o : ℕ) where
  live_goes : (array : ℕ) (line : Line) → Moves item call a o (alone (LivesOut array line))
  live_goes array line =
      moves_served item call a o nothing (λ c n. LivesOut array line) (moves_nothing item call a o)
      (record { form = point_forms.LiveOut; array = array; line = line; same_form = λ c n. refl; same_array = λ c n. refl; same_line = λ c n. refl; on_line = λ c n. tt })

  initial_goes : (x : Initial) → Moves item call a o (initial_piece names x)
  initial_goes (initials.Val x) = moves_nothing item call a o
  initial_goes (initials.Cell x) = live_goes (array_at names x.array) (line_of_cell names x)

  clause_goes : (x : Clause) → Moves item call a o (clause_piece names x)
  clause_goes (clauses.Reduce x) = live_goes (array_at names x.cell.array) (line_of_cell names x.cell)
  clause_goes (clauses.Induct x) = initial_goes x.initial

  pub clauses_move : (xs : List Clause) → Moves item call a o (sequence (map (clause_piece names) xs))
  clauses_move [] = moves_nothing item call a o
  clauses_move (x ∷ xs) = moves_behind item call a o (clause_piece names x) (sequence (map (clause_piece names) xs)) (clause_goes x) (clauses_move xs)

-- ---- loops

some_there : {A : Type 0} (o : Option A) → is_none o ≡ false → is_some o ≡ true
some_there None h = absurd cc
some_there (Some x) h = refl

module _ (scope names : Scope) (x : loops.Loop) (h : IsLoopOf scope names x) where
  abbrev index : Option Name
  index = Some x.index

  mine : (name : Name) → known.has (bytes_eq name) index ≡ true → constant_of scope name ≡ None
  mine name is = ap (constant_of scope) ((bytes_eq-Decides name x.index).0 is) ∙ h.index

  are_lines : (ats : List Place) → list_any (index_not_affine scope index) ats ≡ false → Each (λ (at : Place). is_some (affine_of names index (resolved_expr scope at.index)) ≡ true) ats
  are_lines [] lines = tt
  are_lines (at ∷ ats) lines =
      let parts = or_parts (index_not_affine scope index at) (list_any (index_not_affine scope index) ats) lines in
      let some = some_there (affine_of scope index at.index) parts.0 in
      (ap is_some (line_kept names index h.plain scope mine at.index some) ∙ some, are_lines ats parts.1)

  pub loop_moves : (item : ℕ) (call : Option ℕ) (a o : ℕ) → Moves item call a o (loop_piece names (resolved_loop scope x))
  loop_moves item call a o =
      let text = resolved_loop scope x in
      moves_behind item call a o (sequence (map (clause_piece names) text.clauses)) (body_piece names (space_of names text) text.body) (clauses_move names item call a o text.clauses)
      (body_moves scope names (space_of names text) item call a o x.body (are_lines (flat_map places x.body) h.lines))

plus_nothing : (n : ℕ) → n ≡ n + 0
plus_nothing n = omega arith

-- The points that lists show of a loop are those of its text without constants, behind what stands before them, and its indices are
-- lines.
pub shown_by_text : (scope names : Scope) (x text : loops.Loop) (item c n m : ℕ) → IsLoopOf scope names x → text ≡ resolved_loop scope x
    → (map (info item) ((loop_piece scope x).points (context_of scope c (Loop x)) n m) ≡ map (λ y. moved item (Some c) n m (info 0 y)) (loop_points names text))
    × ((k : ℕ) (y : Point) → slice_get (loop_points names text) k ≡ Some y → IsOnLine y.deed)
shown_by_text scope names x text item c n m h same =
    let own = resolved_loop scope x in
    let goes = loop_moves scope names x h item (Some c) n m in
    let here = context_of names 0 (Loop own) in
    let there = context_of names c (Loop own) in
    let points : loop_points names text ≡ loop_points names own = ap (loop_points names) same in (
      sym (shows_the_same scope names x item c n m h)
          ∙ (λ i. map (info item) ((loop_piece names own).points there (plus_nothing n i) (plus_nothing m i)))
          ∙ goes.shown here there 0 0 (record { of_call = refl; branches = refl; off = refl })
          ∙ sym (ap (map (λ y. moved item (Some c) n m (info 0 y))) points),
      λ k y is. at_place OnLine (loop_points names text) k y (subst (Each OnLine) (sym points) (goes.lines here 0 0)) is,
    )
