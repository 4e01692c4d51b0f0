-- A statement of a body, form by form, and what holds of all of them.
use Rattle.std.proofs.Common.{◌≡◌, ℕ, ◌+◌, Option, Some, None, List, [], ◌∷◌, ◌++◌, map, sum, sym, subst}
use Rattle.std.specs.Prelude.{flat_map}
use Rattle.std.proofs.lemmas.List.Sums.{sum_by-cons}
use Rattle.pts_types.specs.declared.operation.ScalarOp.{ScalarOp}
use Rattle.pts_types.specs.declared.value.Kind.TheVariants as kinds
use Rattle.pts_tree.specs.declared.expr.Expr.{Expr}
use Rattle.pts_tree.specs.declared.expr.Place.{Place}
use Rattle.pts_tree.specs.declared.loops.BodyStmt.{BodyStmt, roll-BodyStmt}
use Rattle.pts_tree.specs.declared.loops.BodyStmt.TheOpen.{BodyStmt-F}
use Rattle.pts_tree.specs.declared.loops.BodyStmt.TheVariants as b
use Rattle.pts_tree.specs.declared.loops.BodyStmt.TheFolds.{map-BodyStmt, ind-BodyStmt}
use Rattle.pts_rules.specs.Known.{Scope}
use Rattle.pts_rules.specs.Counts.{reads, body_points}
use Rattle.pts_rules.specs.Indices.{elements, places}
use Rattle.pts_rules.proofs.Bodies as bodies
use Rattle.pts_rules.proofs.StatementFolds.{at-Assign, at-Let, at-Combine, at-If, at-VecOff, at-Ordered}
use Rattle.pts_points.specs.declared.space.IterationSpace.{IterationSpace}
use Rattle.pts_points.specs.Pieces.{Context, Deed, Notes, Tests, Gives, Piece, nothing, behind, served, served_off, off_vector, binding, branching}
use Rattle.pts_points.specs.Points.{reads_of, both_reads, assign_deed, update_deed, kind_of_let, view_kind, stmt_step, stmt_piece, body_piece}

-- the note of a `let`, a value for a view, and a test
abbrev pub note_deed : Expr → Context → ℕ → Deed
note_deed x context n = Notes (record { kind = kind_of_let x context; first = n; expr = x })

abbrev pub give_deed : List ℕ → Expr → Context → ℕ → Deed
give_deed name x context n = Gives name (record { kind = view_kind name context; first = n; expr = x })

abbrev pub test_deed : Expr → Context → ℕ → Deed
test_deed x context n = Tests (record { kind = kinds.Bool; first = n; expr = x })

module _ (scope : Scope) (space : IterationSpace) where
  abbrev piece : BodyStmt → Piece
  piece = stmt_piece scope space

  abbrev body : List BodyStmt → Piece
  body = body_piece scope space

  -- the branch behind `else`, where there is one
  abbrev pub else_piece : Option (List BodyStmt) → Piece
  else_piece None = nothing
  else_piece (Some xs) = body xs

  pub stmt-Assign : (at : Place) (x : Expr) → piece (b.Assign at x) ≡ served (both_reads scope space at x) (assign_deed scope space at x)
  unfolding stmt_piece
  stmt-Assign at x = at-Assign Piece (stmt_step scope space) at x

  pub stmt-Let : (name : List ℕ) (x : Expr) → piece (b.Let name x) ≡ binding name (kind_of_let x) (reads_of scope space x) (note_deed x)
  unfolding stmt_piece
  stmt-Let name x = at-Let Piece (stmt_step scope space) name x

  pub stmt-Combine : (name : List ℕ) (x : Expr) → piece (b.Combine name x) ≡ served (reads_of scope space x) (give_deed name x)
  unfolding stmt_piece
  stmt-Combine name x = at-Combine Piece (stmt_step scope space) name x

  pub stmt-If : (x : Expr) (xs : List BodyStmt) (ys : Option (List BodyStmt))
      → piece (b.If x xs ys) ≡ branching (reads_of scope space x) (test_deed x) (body xs) (else_piece ys)
  unfolding stmt_piece
  stmt-If x xs None = at-If Piece (stmt_step scope space) x xs None
  stmt-If x xs (Some ys) = at-If Piece (stmt_step scope space) x xs (Some ys)

  pub stmt-VecOff : (xs : List BodyStmt) → piece (b.VecOff xs) ≡ off_vector (body xs)
  unfolding stmt_piece
  stmt-VecOff xs = at-VecOff Piece (stmt_step scope space) xs

  pub stmt-Ordered : (at : Place) (op : ScalarOp) (x : Expr) → piece (b.Ordered at op x) ≡ served_off (both_reads scope space at x) (update_deed scope space at op x)
  unfolding stmt_piece
  stmt-Ordered at op x = at-Ordered Piece (stmt_step scope space) at op x

  -- ---- what each form keeps holds of every statement, beside the places that it touches and the number of its points
  module _ (P : List Place → ℕ → Piece → Type 0) (none : P [] 0 nothing)
      (more : (xs ys : List Place) (m n : ℕ) (x y : Piece) → P xs m x → P ys n y → P (xs ++ ys) (m + n) (behind x y))
      (assigns : (at : Place) (x : Expr) → P ((at ∷ elements at.index) ++ elements x) (reads x + 1) (served (both_reads scope space at x) (assign_deed scope space at x)))
      (notes : (name : List ℕ) (x : Expr) → P (elements x) (reads x + 1) (binding name (kind_of_let x) (reads_of scope space x) (note_deed x)))
      (gives : (name : List ℕ) (x : Expr) → P (elements x) (reads x + 1) (served (reads_of scope space x) (give_deed name x)))
      (branches : (c : Expr) (xs ys : List Place) (m n : ℕ) (x y : Piece) → P xs m x → P ys n y
      → P (elements c ++ xs ++ ys) (reads c + 1 + m + n) (branching (reads_of scope space c) (test_deed c) x y))
      (offs : (xs : List Place) (n : ℕ) (x : Piece) → P xs n x → P xs n (off_vector x))
      (updates : (at : Place) (op : ScalarOp) (x : Expr)
      → P ((at ∷ elements at.index) ++ elements x) (reads x + 1) (served_off (both_reads scope space at x) (update_deed scope space at op x))) where
    abbrev Holds : BodyStmt → Type 0
    Holds x = P (places x) (body_points x) (piece x)

    abbrev Known : Type 0
    Known = (x : BodyStmt) × Holds x

    said : (x : BodyStmt) (xs : List Place) (n : ℕ) (y : Piece) → places x ≡ xs → body_points x ≡ n → piece x ≡ y → P xs n y → Holds x
    said x xs n y p c q h = subst (λ z. P z (body_points x) (piece x)) (sym p) (subst (λ z. P xs z (piece x)) (sym c) (subst (λ z. P xs n z) (sym q) h))

    all_known : (ys : List Known) → P (flat_map (λ y. y) (map places (map (λ (y : Known). y.0) ys))) (sum (map body_points (map (λ (y : Known). y.0) ys))) (body (map (λ (y : Known). y.0) ys))
    all_known [] = none
    all_known (y ∷ ys) =
        let xs = map (λ (z : Known). z.0) ys in
        subst (λ n. P (places y.0 ++ flat_map (λ z. z) (map places xs)) n (behind (piece y.0) (body xs))) (sym (sum_by-cons (λ m. m) (body_points y.0) (map body_points xs)))
        (more (places y.0) (flat_map (λ z. z) (map places xs)) (body_points y.0) (sum (map body_points xs)) (piece y.0) (body xs) y.1 (all_known ys))

    by_form : (y : BodyStmt-F Known) → Holds (roll-BodyStmt (map-BodyStmt Known BodyStmt (λ z. z.0) y))
    by_form (BodyStmt-F.Assign at x) = subst Holds (sym (b.rolls-Assign at x)) (said (b.Assign at x) _ _ _ (bodies.places-Assign at x) (bodies.points-Assign at x) (stmt-Assign at x) (assigns at x))
    by_form (BodyStmt-F.Let name x) = subst Holds (sym (b.rolls-Let name x)) (said (b.Let name x) _ _ _ (bodies.places-Let name x) (bodies.points-Let name x) (stmt-Let name x) (notes name x))
    by_form (BodyStmt-F.Combine name x) = subst Holds (sym (b.rolls-Combine name x)) (said (b.Combine name x) _ _ _ (bodies.places-Combine name x) (bodies.points-Combine name x) (stmt-Combine name x) (gives name x))
    by_form (BodyStmt-F.If x ys None) =
        let xs = map (λ (z : Known). z.0) ys in
        subst Holds (sym (b.rolls-If x xs None)) (said (b.If x xs None) _ _ _ (bodies.places-If x xs None) (bodies.points-If x xs None) (stmt-If x xs None)
        (branches x (flat_map (λ z. z) (map places xs)) [] (sum (map body_points xs)) 0 (body xs) nothing (all_known ys) none))
    by_form (BodyStmt-F.If x ys (Some zs)) =
        let xs = map (λ (z : Known). z.0) ys in
        let us = map (λ (z : Known). z.0) zs in
        subst Holds (sym (b.rolls-If x xs (Some us))) (said (b.If x xs (Some us)) _ _ _ (bodies.places-If x xs (Some us)) (bodies.points-If x xs (Some us)) (stmt-If x xs (Some us))
        (branches x (flat_map (λ z. z) (map places xs)) (flat_map (λ z. z) (map places us)) (sum (map body_points xs)) (sum (map body_points us)) (body xs) (body us) (all_known ys) (all_known zs)))
    by_form (BodyStmt-F.VecOff ys) =
        let xs = map (λ (z : Known). z.0) ys in
        subst Holds (sym (b.rolls-VecOff xs)) (said (b.VecOff xs) _ _ _ (bodies.places-VecOff xs) (bodies.points-VecOff xs) (stmt-VecOff xs)
        (offs (flat_map (λ z. z) (map places xs)) (sum (map body_points xs)) (body xs) (all_known ys)))
    by_form (BodyStmt-F.Ordered at op x) = subst Holds (sym (b.rolls-Ordered at op x)) (said (b.Ordered at op x) _ _ _ (bodies.places-Ordered at op x) (bodies.points-Ordered at op x) (stmt-Ordered at op x) (updates at op x))

    pub by_stmts : (x : BodyStmt) → Holds x
    by_stmts = ind-BodyStmt Holds (λ x y is. subst (λ z. Holds (roll-BodyStmt z)) is (by_form y))

    pub by_bodies : (xs : List BodyStmt) → P (flat_map places xs) (sum (map body_points xs)) (body xs)
    by_bodies [] = none
    by_bodies (x ∷ xs) =
        subst (λ n. P (places x ++ flat_map places xs) n (behind (piece x) (body xs))) (sym (sum_by-cons (λ m. m) (body_points x) (map body_points xs)))
        (more (places x) (flat_map places xs) (body_points x) (sum (map body_points xs)) (piece x) (body xs) (by_stmts x) (by_bodies xs))
