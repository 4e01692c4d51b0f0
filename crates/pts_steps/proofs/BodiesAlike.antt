-- The points of a loop without constants show what those of the loop show.
use Rattle.std.proofs.Common.{◌≡◌, ℕ, Some, None, List, [], ◌∷◌, ◌++◌, map, refl, sym, ap, subst, ◌∙◌}
use Rattle.std.specs.Prelude.{flat_map}
use Rattle.pts_types.specs.declared.operation.ScalarOp.{ScalarOp}
use Rattle.pts_tree.specs.declared.expr.Expr.{Expr}
use Rattle.pts_tree.specs.declared.expr.Place.{Place}
use Rattle.pts_tree.specs.declared.loops.BodyStmt.{BodyStmt, roll-BodyStmt}
use Rattle.pts_tree.specs.declared.loops.BodyStmt.TheOpen.{BodyStmt-F}
use Rattle.pts_tree.specs.declared.loops.BodyStmt.TheVariants as b
use Rattle.pts_tree.specs.declared.loops.BodyStmt.TheFolds.{map-BodyStmt, ind-BodyStmt}
use Rattle.pts_tree.specs.declared.loops.Clause.{Clause}
use Rattle.pts_tree.specs.declared.loops.Clause.TheVariants as clauses
use Rattle.pts_tree.specs.declared.loops.Initial.{Initial}
use Rattle.pts_tree.specs.declared.loops.Initial.TheVariants as initials
use Rattle.pts_tree.specs.declared.loops.Loop as loops
use Rattle.pts_rules.specs.Known.{Scope}
use Rattle.pts_rules.specs.Indices.{elements, places}
use Rattle.pts_rules.specs.Parts.{Loop}
use Rattle.pts_rules.proofs.Bodies as bodies
use Rattle.pts_constants.specs.Resolved.{resolved_clause, resolved_expr, resolved_loop, resolved_place, resolved_stmt}
use Rattle.pts_constants.proofs.ResolvedStatements as res
use Rattle.pts_points.specs.declared.space.IterationSpace.{IterationSpace}
use Rattle.pts_points.specs.Lines.{space_of}
use Rattle.pts_points.specs.Pieces.{Piece, nothing, sequence}
use Rattle.pts_points.specs.Points.{info, initial_piece, reads_of, both_reads, assign_deed, update_deed, kind_of_let, stmt_piece, body_piece, clause_piece, loop_piece, context_of}
use Rattle.pts_points.proofs.Each.{Each, front, back}
use Rattle.pts_points.proofs.ReadTurns.{index_shown}
use Rattle.pts_points.proofs.StatementForms as forms
use Rattle.pts_points.proofs.StatementForms.{note_deed, give_deed, test_deed, else_piece}
use Rattle.pts_steps.proofs.Alike.{Alike, AlikeDeeds, alike_behind, alike_binding, alike_branching, alike_nothing, alike_off_vector, alike_self, alike_served, alike_served_off}
use Rattle.pts_steps.proofs.ReadsAlike.{IsSamePlace, line_same, reads_alike}

module _ (scope names : Scope) (space : IterationSpace) where
  abbrev r : Expr → Expr
  r = resolved_expr scope

  abbrev s : BodyStmt → BodyStmt
  s = resolved_stmt scope

  abbrev Same : Place → Type 0
  Same = IsSamePlace scope names space.index

  abbrev AreSame : List Place → Type 0
  AreSame places = Each Same places

  abbrev own : BodyStmt → Piece
  own = stmt_piece scope space

  abbrev plain : BodyStmt → Piece
  plain = stmt_piece names space

  both_alike : (at : Place) (x : Expr) → AreSame (elements at.index) → AreSame (elements x) → Alike (both_reads names space (resolved_place scope at) (r x)) (both_reads scope space at x)
  both_alike at x h k =
      alike_behind (reads_of names space (r at.index)) (reads_of scope space at.index) (reads_of names space (r x)) (reads_of scope space x)
      (reads_alike scope names space at.index h) (reads_alike scope names space x k)

  assigns_alike : (at : Place) (x : Expr) → Same at → AlikeDeeds (assign_deed names space (resolved_place scope at) (r x)) (assign_deed scope space at x)
  assigns_alike at x h =
      record {
        form = λ c d n. refl;
        array = λ c d n. h.array;
        line = λ c d n. index_shown names space (r at.index) c n ∙ line_same scope names space at h ∙ sym (index_shown scope space at.index d n);
      }

  updates_alike : (at : Place) (op : ScalarOp) (x : Expr) → Same at → AlikeDeeds (update_deed names space (resolved_place scope at) op (r x)) (update_deed scope space at op x)
  updates_alike at op x h =
      record {
        form = λ c d n. refl;
        array = λ c d n. h.array;
        line = λ c d n. index_shown names space (r at.index) c n ∙ line_same scope names space at h ∙ sym (index_shown scope space at.index d n);
      }

  abbrev Holds : BodyStmt → Type 0
  Holds x = AreSame (places x) → Alike (plain (s x)) (own x)

  abbrev Known : Type 0
  Known = (x : BodyStmt) × Holds x

  abbrev firsts : List Known → List BodyStmt
  firsts ys = map (λ (y : Known). y.0) ys

  abbrev plain_body : List BodyStmt → Piece
  plain_body xs = body_piece names space (map s xs)

  abbrev own_body : List BodyStmt → Piece
  own_body xs = body_piece scope space xs

  said : (x y : BodyStmt) (p q : Piece) → s x ≡ y → plain y ≡ p → own x ≡ q → Alike p q → Alike (plain (s x)) (own x)
  said x y p q a b c h = subst (λ z. Alike z (own x)) (sym (ap plain a ∙ b)) (subst (Alike p) (sym c) h)

  all_known : (ys : List Known) → AreSame (flat_map (λ z. z) (map places (firsts ys))) → Alike (plain_body (firsts ys)) (own_body (firsts ys))
  all_known [] h = alike_nothing
  all_known (y ∷ ys) h =
      let rest = flat_map (λ z. z) (map places (firsts ys)) in
      alike_behind (plain (s y.0)) (own y.0) (plain_body (firsts ys)) (own_body (firsts ys)) (y.1 (front Same (places y.0) rest h)) (all_known ys (back Same (places y.0) rest h))

  by_form : (y : BodyStmt-F Known) → Holds (roll-BodyStmt (map-BodyStmt Known BodyStmt (λ z. z.0) y))
  by_form (BodyStmt-F.Assign at x) =
      subst Holds (sym (b.rolls-Assign at x)) (λ h.
      let all = subst AreSame (bodies.places-Assign at x) h in
      let place = front Same (at ∷ elements at.index) (elements x) all in
      said (b.Assign at x) (b.Assign (resolved_place scope at) (r x)) _ _ (res.stmt-Assign scope at x) (forms.stmt-Assign names space (resolved_place scope at) (r x)) (forms.stmt-Assign scope space at x)
      (alike_served (both_reads names space (resolved_place scope at) (r x)) (both_reads scope space at x) (assign_deed names space (resolved_place scope at) (r x)) (assign_deed scope space at x)
      (both_alike at x place.1 (back Same (at ∷ elements at.index) (elements x) all)) (assigns_alike at x place.0)))
  by_form (BodyStmt-F.Let name x) =
      subst Holds (sym (b.rolls-Let name x)) (λ h.
      said (b.Let name x) (b.Let name (r x)) _ _ (res.stmt-Let scope name x) (forms.stmt-Let names space name (r x)) (forms.stmt-Let scope space name x)
      (alike_binding (reads_of names space (r x)) (reads_of scope space x) (note_deed (r x)) (note_deed x) (reads_alike scope names space x (subst AreSame (bodies.places-Let name x) h))
      (record { form = λ c d n. refl; array = λ c d n. refl; line = λ c d n. refl }) name name (kind_of_let (r x)) (kind_of_let x)))
  by_form (BodyStmt-F.Combine name x) =
      subst Holds (sym (b.rolls-Combine name x)) (λ h.
      said (b.Combine name x) (b.Combine name (r x)) _ _ (res.stmt-Combine scope name x) (forms.stmt-Combine names space name (r x)) (forms.stmt-Combine scope space name x)
      (alike_served (reads_of names space (r x)) (reads_of scope space x) (give_deed name (r x)) (give_deed name x) (reads_alike scope names space x (subst AreSame (bodies.places-Combine name x) h))
      (record { form = λ c d n. refl; array = λ c d n. refl; line = λ c d n. refl })))
  by_form (BodyStmt-F.If x ys None) =
      let xs = firsts ys in
      subst Holds (sym (b.rolls-If x xs None)) (λ h.
      let body_places = flat_map (λ z. z) (map places xs) in
      let all = subst AreSame (bodies.places-If x xs None) h in
      let both = front Same (elements x ++ body_places) [] all in
      said (b.If x xs None) (b.If (r x) (map s xs) None) _ _ (res.stmt-If scope x xs None) (forms.stmt-If names space (r x) (map s xs) None) (forms.stmt-If scope space x xs None)
      (alike_branching (reads_of names space (r x)) (reads_of scope space x) (test_deed (r x)) (test_deed x) (reads_alike scope names space x (front Same (elements x) body_places both))
      (record { form = λ c d n. refl; array = λ c d n. refl; line = λ c d n. refl }) (plain_body xs) (own_body xs) nothing nothing
      (all_known ys (back Same (elements x) body_places both)) alike_nothing))
  by_form (BodyStmt-F.If x ys (Some zs)) =
      let xs = firsts ys in
      let us = firsts zs in
      subst Holds (sym (b.rolls-If x xs (Some us))) (λ h.
      let body_places = flat_map (λ z. z) (map places xs) in
      let else_places = flat_map (λ z. z) (map places us) in
      let all = subst AreSame (bodies.places-If x xs (Some us)) h in
      let both = front Same (elements x ++ body_places) else_places all in
      said (b.If x xs (Some us)) (b.If (r x) (map s xs) (Some (map s us))) _ _ (res.stmt-If scope x xs (Some us)) (forms.stmt-If names space (r x) (map s xs) (Some (map s us))) (forms.stmt-If scope space x xs (Some us))
      (alike_branching (reads_of names space (r x)) (reads_of scope space x) (test_deed (r x)) (test_deed x) (reads_alike scope names space x (front Same (elements x) body_places both))
      (record { form = λ c d n. refl; array = λ c d n. refl; line = λ c d n. refl }) (plain_body xs) (own_body xs) (plain_body us) (own_body us)
      (all_known ys (back Same (elements x) body_places both)) (all_known zs (back Same (elements x ++ body_places) else_places all))))
  by_form (BodyStmt-F.VecOff ys) =
      let xs = firsts ys in
      subst Holds (sym (b.rolls-VecOff xs)) (λ h.
      said (b.VecOff xs) (b.VecOff (map s xs)) _ _ (res.stmt-VecOff scope xs) (forms.stmt-VecOff names space (map s xs)) (forms.stmt-VecOff scope space xs)
      (alike_off_vector (plain_body xs) (own_body xs) (all_known ys (subst AreSame (bodies.places-VecOff xs) h))))
  by_form (BodyStmt-F.Ordered at op x) =
      subst Holds (sym (b.rolls-Ordered at op x)) (λ h.
      let all = subst AreSame (bodies.places-Ordered at op x) h in
      let place = front Same (at ∷ elements at.index) (elements x) all in
      said (b.Ordered at op x) (b.Ordered (resolved_place scope at) op (r x)) _ _ (res.stmt-Ordered scope at op x) (forms.stmt-Ordered names space (resolved_place scope at) op (r x)) (forms.stmt-Ordered scope space at op x)
      (alike_served_off (both_reads names space (resolved_place scope at) (r x)) (both_reads scope space at x) (update_deed names space (resolved_place scope at) op (r x)) (update_deed scope space at op x)
      (both_alike at x place.1 (back Same (at ∷ elements at.index) (elements x) all)) (updates_alike at op x place.0)))

  stmt_alike : (x : BodyStmt) → Holds x
  stmt_alike = ind-BodyStmt Holds (λ x y is. subst (λ z. Holds (roll-BodyStmt z)) is (by_form y))

  body_alike : (xs : List BodyStmt) → AreSame (flat_map places xs) → Alike (plain_body xs) (own_body xs)
  body_alike [] h = alike_nothing
  body_alike (x ∷ xs) h =
      alike_behind (plain (s x)) (own x) (plain_body xs) (own_body xs)
      (stmt_alike x (front Same (places x) (flat_map places xs) h)) (body_alike xs (back Same (places x) (flat_map places xs) h))

-- ---- loops

abbrev pub IsSameClause : Scope → Scope → Clause → Type 0
IsSameClause scope names x = clause_piece names (resolved_clause scope x) ≡ clause_piece scope x

-- the index takes the same numbers without constants, and the clauses and the body are at the same cells
pub record IsSameLoop (scope names : Scope) (x : loops.Loop) : Type 0 where
  pub space : space_of names (resolved_loop scope x) ≡ space_of scope x
  pub clauses : Each (IsSameClause scope names) x.clauses
  pub places : Each (IsSamePlace scope names (Some x.index)) (flat_map places x.body)

live_alike : (scope : Scope) (x : Clause) → Alike (clause_piece scope x) (clause_piece scope x)
live_alike scope (clauses.Reduce x) = alike_served nothing nothing _ _ alike_nothing (record { form = λ c d n. refl; array = λ c d n. refl; line = λ c d n. refl })
live_alike scope (clauses.Induct x) = by_initial x.initial
  where
    by_initial : (y : Initial) → Alike (initial_piece scope y) (initial_piece scope y)
    by_initial (initials.Val y) = alike_nothing
    by_initial (initials.Cell y) = alike_served nothing nothing _ _ alike_nothing (record { form = λ c d n. refl; array = λ c d n. refl; line = λ c d n. refl })

clauses_alike : (scope names : Scope) (xs : List Clause) → Each (IsSameClause scope names) xs
    → Alike (sequence (map (clause_piece names) (map (resolved_clause scope) xs))) (sequence (map (clause_piece scope) xs))
clauses_alike scope names [] h = alike_nothing
clauses_alike scope names (x ∷ xs) h =
    alike_behind (clause_piece names (resolved_clause scope x)) (clause_piece scope x) (sequence (map (clause_piece names) (map (resolved_clause scope) xs))) (sequence (map (clause_piece scope) xs))
    (alike_self (clause_piece names (resolved_clause scope x)) (clause_piece scope x) h.0 (live_alike scope x)) (clauses_alike scope names xs h.1)

loop_alike : (scope names : Scope) (x : loops.Loop) → IsSameLoop scope names x → Alike (loop_piece names (resolved_loop scope x)) (loop_piece scope x)
loop_alike scope names x h =
    let body = body_piece names (space_of names (resolved_loop scope x)) (map (resolved_stmt scope) x.body) in
    alike_behind (sequence (map (clause_piece names) (map (resolved_clause scope) x.clauses))) (sequence (map (clause_piece scope) x.clauses)) body (body_piece scope (space_of scope x) x.body)
    (clauses_alike scope names x.clauses h.clauses)
    (subst (λ z. Alike (body_piece names z (map (resolved_stmt scope) x.body)) (body_piece scope (space_of scope x) x.body)) (sym h.space)
    (body_alike scope names (space_of scope x) x.body h.places))

-- a loop shows the same points without constants
pub shows_alike : (scope names : Scope) (x : loops.Loop) (item call n m : ℕ) → IsSameLoop scope names x
    → map (info item) ((loop_piece names (resolved_loop scope x)).points (context_of names call (Loop (resolved_loop scope x))) n m)
    ≡ map (info item) ((loop_piece scope x).points (context_of scope call (Loop x)) n m)
shows_alike scope names x item call n m h =
    (loop_alike scope names x h).shown (context_of names call (Loop (resolved_loop scope x))) (context_of scope call (Loop x)) n m item (record { call = refl; branches = refl; off = refl })
