-- How the points of statements of a body are added, form by form.
use Rattle.std.proofs.Common.{◌≡◌, ℕ, ◌+◌, ◌<◌, Option, Some, None, List, [], length, get_or, take, pos, refl, sym, ap, subst, ◌∙◌}
use Rattle.std.specs.Prelude.{true, false}
use Rattle.pts_types.specs.declared.operation.ScalarOp.{ScalarOp}
use Rattle.pts_tree.specs.declared.expr.Expr.{Expr}
use Rattle.pts_tree.specs.declared.expr.Place.{Place}
use Rattle.pts_tree.specs.declared.loops.BodyStmt.{BodyStmt}
use Rattle.pts_tree.specs.declared.loops.BodyStmt.TheVariants as variants
use Rattle.pts_rules.specs.Parts.{Name}
use Rattle.pts_rules.specs.Known.{Scope}
use Rattle.pts_points.specs.declared.space.IterationSpace.{IterationSpace}
use Rattle.pts_points.specs.declared.builder.Builder.{Builder}
use Rattle.pts_points.specs.declared.point.PointForm.TheVariants.{Write, Update, Plain}
use Rattle.pts_points.specs.Widths.{small}
use Rattle.pts_points.specs.Pieces.{Context, Deed, Piece, served, served_off, off_vector, binding, branching}
use Rattle.pts_points.specs.Points.{array_at, line_of_deed, reads_of, both_reads, assign_deed, update_deed, kind_of_let, stmt_piece, body_piece}
use Rattle.pts_points.specs.Building.{Adds, AddsUnder, AddsPlain, IsPlain, kept_line, line_of_index, pushed, pushed_at, off_builder, back_on}
use Rattle.pts_points.proofs.StatementForms as forms
use Rattle.pts_points.proofs.StatementForms.{note_deed, give_deed, test_deed, else_piece}
use Rattle.pts_points.proofs.Wholes.{good_reads, good_both, good_body, good_stmt, tests_good}
use Rattle.pts_points.proofs.Builds.{adds_served, adds_served_off, adds_off_vector, adds_binding, adds_under_nothing, adds_branching}
use Rattle.pts_points.proofs.Turns.{same_space, adds_turn}
use Rattle.pts_points.proofs.ReadTurns.{index_shown, then_reads}

-- ---- places

module _ (scope : Scope) (b c d : Builder) (at : Place) (x : Expr) where
  both : Piece
  both = both_reads scope b.space at x

  pub both_added : Adds b c (reads_of scope b.space at.index) → Adds c d (reads_of scope c.space x) → Adds b d (both_reads scope b.space at x)
  both_added h k = then_reads scope b c d (reads_of scope b.space at.index) x (good_reads scope b.space at.index) h k

  line_shown : (space : IterationSpace) → space ≡ b.space → (context : Context) (n : ℕ) (deed : Context → ℕ → Deed)
      → line_of_deed (deed context n) ≡ line_of_index scope b.space at.index → kept_line (line_of_deed (deed context n)) ≡ kept_line (line_of_index scope space at.index)
  line_shown space same context n deed h = ap kept_line h ∙ ap (λ s. kept_line (line_of_index scope s at.index)) (sym same)

  pub assign_added : Adds b c (both_reads scope b.space at x) → d ≡ pushed_at scope c Write at
      → Adds b d (served (both_reads scope b.space at x) (assign_deed scope b.space at x))
  assign_added h e =
      adds_served b c d (both_reads scope b.space at x) (assign_deed scope b.space at x) Write (small (array_at scope at.array)) (kept_line (line_of_index scope c.space at.index)) (good_both scope b.space at x)
      (record {
        same_form = λ context n. refl;
        same_array = λ context n. refl;
        same_line = λ context n. line_shown c.space (same_space b c (both_reads scope b.space at x) h) context n (assign_deed scope b.space at x) (index_shown scope b.space at.index context n);
      }) h e

  pub update_added : Adds b c (both_reads scope b.space at x) → d ≡ back_on c.off (pushed_at scope (off_builder c) Update at) → (op : ScalarOp)
      → Adds b d (served_off (both_reads scope b.space at x) (update_deed scope b.space at op x))
  update_added h e op =
      adds_served_off b c d (both_reads scope b.space at x) (update_deed scope b.space at op x) Update (small (array_at scope at.array)) (kept_line (line_of_index scope c.space at.index)) (good_both scope b.space at x)
      (record {
        same_form = λ context n. refl;
        same_array = λ context n. refl;
        same_line = λ context n. line_shown c.space (same_space b c (both_reads scope b.space at x) h) context n (update_deed scope b.space at op x) (index_shown scope b.space at.index context n);
      }) h e

-- back from off the vector, behind the update
pub update_done : (scope : Scope) (b c m p d : Builder) (at : Place) (x : Expr) → Adds b c (both_reads scope b.space at x) → m ≡ off_builder c → p ≡ pushed_at scope m Update at → d ≡ back_on b.off p
    → d ≡ back_on c.off (pushed_at scope (off_builder c) Update at)
update_done scope b c m p d at x h away put back =
    back ∙ (λ i. back_on (sym (ap (λ z. z.off) (h.added [] [])) i) ((put ∙ ap (λ z. pushed_at scope z Update at) away) i))

-- ---- points that touch nothing

pub plain_added : (scope : Scope) (b c d : Builder) (x : Expr) → Adds b c (reads_of scope b.space x) → d ≡ pushed c Plain 0 (record { c = pos 0; d = pos 0; n = 0 }) → AddsPlain b d (reads_of scope b.space x)
plain_added scope b c d x h e =
    record {
      added = λ deed plain.
          adds_served b c d (reads_of scope b.space x) deed Plain 0 (record { c = pos 0; d = pos 0; n = 0 }) (good_reads scope b.space x)
          (record {
            same_form = plain.form;
            same_array = λ context n. ap small (plain.array context n);
            same_line = λ context n. ap kept_line (plain.line context n);
          }) h e;
    }

plain_notes : (x : Expr) → IsPlain (note_deed x)
plain_notes x = record { form = λ context n. refl; array = λ context n. refl; line = λ context n. refl }

plain_gives : (name : Name) (x : Expr) → IsPlain (give_deed name x)
plain_gives name x = record { form = λ context n. refl; array = λ context n. refl; line = λ context n. refl }

plain_tests : (x : Expr) → IsPlain (test_deed x)
plain_tests x = record { form = λ context n. refl; array = λ context n. refl; line = λ context n. refl }

-- ---- statements one behind the other

module _ (scope : Scope) (b c d : Builder) (xs : List BodyStmt) (at : ℕ) (x : BodyStmt) where
  pub body_turn : at < length xs → x ≡ get_or xs at x → Adds b c (body_piece scope b.space (take at xs)) → Adds c d (stmt_piece scope c.space x)
      → Adds b d (body_piece scope b.space (take (at + 1) xs))
  body_turn within is h k =
      adds_turn (stmt_piece scope b.space) (good_stmt scope b.space) b c d xs at x within is h
      (subst (λ s. Adds c d (stmt_piece scope s x)) (same_space b c (body_piece scope b.space (take at xs)) h) k)

-- ---- forms

module _ (scope : Scope) (b c : Builder) (x : BodyStmt) where
  abbrev piece : BodyStmt → Piece
  piece = stmt_piece scope b.space

  by_form : (y : BodyStmt) (z : Piece) → x ≡ y → piece y ≡ z → Adds b c z → Adds b c (piece x)
  by_form y z is e h = subst (Adds b c) (sym (ap piece is ∙ e)) h

  pub in-Assign : (at : Place) (y : Expr) → x ≡ variants.Assign at y → Adds b c (served (both_reads scope b.space at y) (assign_deed scope b.space at y)) → Adds b c (stmt_piece scope b.space x)
  in-Assign at y is h = by_form (variants.Assign at y) (served (both_reads scope b.space at y) (assign_deed scope b.space at y)) is (forms.stmt-Assign scope b.space at y) h

  pub in-Let : (name : Name) (y : Expr) → x ≡ variants.Let name y → AddsPlain b c (reads_of scope b.space y) → Adds b c (stmt_piece scope b.space x)
  in-Let name y is h =
      by_form (variants.Let name y) (binding name (kind_of_let y) (reads_of scope b.space y) (note_deed y)) is (forms.stmt-Let scope b.space name y)
      (adds_binding b c name (kind_of_let y) (reads_of scope b.space y) (note_deed y) (h.added (note_deed y) (plain_notes y)))

  pub in-Combine : (name : Name) (y : Expr) → x ≡ variants.Combine name y → AddsPlain b c (reads_of scope b.space y) → Adds b c (stmt_piece scope b.space x)
  in-Combine name y is h =
      by_form (variants.Combine name y) (served (reads_of scope b.space y) (give_deed name y)) is (forms.stmt-Combine scope b.space name y) (h.added (give_deed name y) (plain_gives name y))

  pub in-Ordered : (at : Place) (op : ScalarOp) (y : Expr) → x ≡ variants.Ordered at op y
      → ((o : ScalarOp) → Adds b c (served_off (both_reads scope b.space at y) (update_deed scope b.space at o y))) → Adds b c (stmt_piece scope b.space x)
  in-Ordered at op y is h = by_form (variants.Ordered at op y) (served_off (both_reads scope b.space at y) (update_deed scope b.space at op y)) is (forms.stmt-Ordered scope b.space at op y) (h op)

  pub in-VecOff : (xs ys : List BodyStmt) → x ≡ variants.VecOff xs → ys ≡ xs → Adds b c (off_vector (body_piece scope b.space ys)) → Adds b c (stmt_piece scope b.space x)
  in-VecOff xs ys is same h =
      by_form (variants.VecOff xs) (off_vector (body_piece scope b.space ys)) is (forms.stmt-VecOff scope b.space xs ∙ ap (λ zs. off_vector (body_piece scope b.space zs)) (sym same)) h

-- an `if`: the test, one branch, and where there is one the other
module _ (scope : Scope) (b c : Builder) (stmt : BodyStmt) (x : Expr) (xs zs : List BodyStmt) (ys : Option (List BodyStmt))
    (is : stmt ≡ variants.If x xs ys) (same : zs ≡ xs) (tested : AddsPlain b c (reads_of scope b.space x)) where
  abbrev own : Piece
  own = reads_of scope b.space x

  abbrev tested_piece : Piece
  tested_piece = served own (test_deed x)

  abbrev branches : Piece
  branches = branching own (test_deed x) (body_piece scope b.space zs) (else_piece scope b.space ys)

  is_branches : stmt_piece scope b.space stmt ≡ branches
  is_branches = ap (stmt_piece scope b.space) is ∙ forms.stmt-If scope b.space x xs ys ∙ ap (λ us. branching own (test_deed x) (body_piece scope b.space us) (else_piece scope b.space ys)) (sym same)

  test_added : Adds b c tested_piece
  test_added = tested.added (test_deed x) (plain_tests x)

  pub in-If : (d e : Builder) (t : ℕ) → t + 1 ≡ length c.points → AddsUnder (record { number = t; taken = true }) c d (body_piece scope c.space zs)
      → AddsUnder (record { number = t; taken = false }) d e (else_piece scope b.space ys) → Adds b e (stmt_piece scope b.space stmt)
  in-If d e t place first second =
      subst (Adds b e) (sym is_branches)
      (adds_branching b own (test_deed x) (body_piece scope b.space zs) (else_piece scope b.space ys) t c d e (tests_good scope b.space x) (good_body scope b.space zs) test_added place
      (subst (λ s. AddsUnder (record { number = t; taken = true }) c d (body_piece scope s zs)) (same_space b c tested_piece test_added) first) second)

  pub in-If-else : (d e : Builder) (t : ℕ) (us vs : List BodyStmt) → ys ≡ Some us → vs ≡ us → t + 1 ≡ length c.points
      → AddsUnder (record { number = t; taken = true }) c d (body_piece scope c.space zs) → AddsUnder (record { number = t; taken = false }) d e (body_piece scope d.space vs) → Adds b e (stmt_piece scope b.space stmt)
  in-If-else d e t us vs some alike place first second =
      let same : d.space ≡ b.space = ap (λ z. z.space) (first.added [] []) ∙ same_space b c tested_piece test_added in
      in-If d e t place first
      (subst (AddsUnder (record { number = t; taken = false }) d e) (sym (ap (else_piece scope b.space) some ∙ ap (body_piece scope b.space) (sym alike)))
      (subst (λ s. AddsUnder (record { number = t; taken = false }) d e (body_piece scope s vs)) same second))

  pub in-If-alone : (d : Builder) (t : ℕ) → ys ≡ None → t + 1 ≡ length c.points → AddsUnder (record { number = t; taken = true }) c d (body_piece scope c.space zs) → Adds b d (stmt_piece scope b.space stmt)
  in-If-alone d t none place first =
      in-If d d t place first
      (subst (AddsUnder (record { number = t; taken = false }) d d) (sym (ap (else_piece scope b.space) none)) (adds_under_nothing (record { number = t; taken = false }) d))

-- a block off the vector
pub off_added : (scope : Scope) (b m c d : Builder) (xs : List BodyStmt) → m ≡ off_builder b → Adds m c (body_piece scope m.space xs) → d ≡ back_on b.off c → Adds b d (off_vector (body_piece scope b.space xs))
off_added scope b m c d xs away h back = adds_off_vector b c d (body_piece scope b.space xs) (subst (λ z. Adds z c (body_piece scope z.space xs)) away h) back
