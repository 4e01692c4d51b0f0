-- How the Reads of an expression are added, form by form.
use Rattle.std.proofs.Common.{◌≡◌, ℕ, ◌+◌, ◌<◌, Some, None, List, map, length, get_or, take, refl, sym, ap, subst, ◌∙◌}
use Rattle.pts_types.specs.declared.value.Kind.{Kind}
use Rattle.pts_types.specs.declared.operation.ScalarOp.{ScalarOp}
use Rattle.pts_affine.specs.declared.line.Line.{Line}
use Rattle.pts_tree.specs.declared.expr.Expr.{Expr}
use Rattle.pts_tree.specs.declared.expr.Expr.TheVariants as e
use Rattle.pts_tree.specs.declared.expr.ChainPart.{ChainPart}
use Rattle.pts_rules.specs.Parts.{Name}
use Rattle.pts_rules.specs.Known.{Scope}
use Rattle.pts_rules.specs.Indices.{affine_of}
use Rattle.pts_points.specs.declared.space.IterationSpace.{IterationSpace}
use Rattle.pts_points.specs.declared.builder.Builder.{Builder}
use Rattle.pts_points.specs.declared.point.PointForm.TheVariants.{Read}
use Rattle.pts_points.specs.Widths.{small}
use Rattle.pts_points.specs.Lines.{no_line}
use Rattle.pts_points.specs.Pieces.{Context, Along, Computed, Piece, behind, sequence}
use Rattle.pts_points.specs.Points.{array_at, index_kind, index_of, line_at, reads_of}
use Rattle.pts_points.specs.Building.{Adds, element_piece, kept_line, line_along, line_of_index, pushed}
use Rattle.pts_points.proofs.ReadForms as forms
use Rattle.pts_points.proofs.Standing.{Good}
use Rattle.pts_points.proofs.Wholes.{good_reads}
use Rattle.pts_points.proofs.Builds.{adds_nothing, adds_behind, adds_served}
use Rattle.pts_points.proofs.Turns.{same_space, adds_turn}

-- the line of an index is shown whatever the names in scope are
pub index_shown : (scope : Scope) (space : IterationSpace) (x : Expr) (context : Context) (n : ℕ) → line_at (index_of scope space x context n) ≡ line_of_index scope space x
index_shown scope space x context n =
    elim (affine_of scope space.index x) as (λ o. line_at (elim o [
      | None ↦ Computed (record { kind = index_kind context x; first = n; expr = x })
      | Some affine ↦ Along (line_along space affine.factor affine.offset)
    ]) ≡ elim o [ None ↦ no_line | Some affine ↦ line_along space affine.factor affine.offset ]) [ None ↦ refl | Some affine ↦ refl ]

-- how the index runs is the same behind a piece
pub same_reads : (scope : Scope) (b c d : Builder) (x : Piece) (y : Expr) → Adds b c x → Adds c d (reads_of scope c.space y) → Adds c d (reads_of scope b.space y)
same_reads scope b c d x y h k = subst (λ s. Adds c d (reads_of scope s y)) (same_space b c x h) k

pub then_reads : (scope : Scope) (b c d : Builder) (x : Piece) (y : Expr) → Good x → Adds b c x → Adds c d (reads_of scope c.space y) → Adds b d (behind x (reads_of scope b.space y))
then_reads scope b c d x y g h k = adds_behind b c d x (reads_of scope b.space y) g h (same_reads scope b c d x y h k)

-- ---- lists of expressions

module _ (scope : Scope) (b c d : Builder) (at : ℕ) where
  pub each_turn : (xs : List Expr) (x : Expr) → at < length xs → x ≡ get_or xs at x → Adds b c (sequence (map (reads_of scope b.space) (take at xs)))
      → Adds c d (reads_of scope c.space x) → Adds b d (sequence (map (reads_of scope b.space) (take (at + 1) xs)))
  each_turn xs x within is h k =
      adds_turn (reads_of scope b.space) (good_reads scope b.space) b c d xs at x within is h (same_reads scope b c d (sequence (map (reads_of scope b.space) (take at xs))) x h k)

  pub operands_turn : (xs : List ChainPart) (x : ChainPart) → at < length xs → x ≡ get_or xs at x → Adds b c (sequence (map (λ y. reads_of scope b.space y.operand) (take at xs)))
      → Adds c d (reads_of scope c.space x.operand) → Adds b d (sequence (map (λ y. reads_of scope b.space y.operand) (take (at + 1) xs)))
  operands_turn xs x within is h k =
      adds_turn (λ (y : ChainPart). reads_of scope b.space y.operand) (λ y. good_reads scope b.space y.operand) b c d xs at x within is h
      (same_reads scope b c d (sequence (map (λ y. reads_of scope b.space y.operand) (take at xs))) x.operand h k)

-- ---- an element

pub read_added : (scope : Scope) (b c d : Builder) (name : Name) (x : Expr) (array : ℕ) (line : Line) → Adds b c (reads_of scope b.space x)
    → array ≡ small (array_at scope name) → line ≡ kept_line (line_of_index scope c.space x) → d ≡ pushed c Read array line → Adds b d (element_piece scope b.space name x)
read_added scope b c d name x array line h is_array is_line e =
    let same = same_space b c (reads_of scope b.space x) h in
    adds_served b c d (reads_of scope b.space x) _ Read array line (good_reads scope b.space x)
    (record {
      same_form = λ context n. refl;
      same_array = λ context n. sym is_array;
      same_line = λ context n. ap kept_line (index_shown scope b.space x context n) ∙ ap (λ s. kept_line (line_of_index scope s x)) (sym same) ∙ sym is_line;
    }) h e

-- ---- forms

module _ (scope : Scope) (b c : Builder) (x : Expr) where
  abbrev reads : Expr → Piece
  reads = reads_of scope b.space

  by_form : (y : Expr) (z : Piece) → x ≡ y → reads y ≡ z → Adds b c z → Adds b c (reads x)
  by_form y z is e h = subst (Adds b c) (sym (ap reads is ∙ e)) h

  pub in-Number : (n : ℕ) → x ≡ e.Number n → Adds b b (reads_of scope b.space x)
  in-Number n is = subst (Adds b b) (sym (ap reads is ∙ forms.reads-Number scope b.space n)) (adds_nothing b)

  pub in-True : x ≡ e.True → Adds b b (reads_of scope b.space x)
  in-True is = subst (Adds b b) (sym (ap reads is ∙ forms.reads-True scope b.space)) (adds_nothing b)

  pub in-False : x ≡ e.False → Adds b b (reads_of scope b.space x)
  in-False is = subst (Adds b b) (sym (ap reads is ∙ forms.reads-False scope b.space)) (adds_nothing b)

  pub in-Name : (name : Name) → x ≡ e.Name name → Adds b b (reads_of scope b.space x)
  in-Name name is = subst (Adds b b) (sym (ap reads is ∙ forms.reads-Name scope b.space name)) (adds_nothing b)

  pub in-Throw : (n : ℕ) → x ≡ e.Throw n → Adds b b (reads_of scope b.space x)
  in-Throw n is = subst (Adds b b) (sym (ap reads is ∙ forms.reads-Throw scope b.space n)) (adds_nothing b)

  pub in-Call : (name : Name) (xs ys : List Expr) → x ≡ e.Call name xs → ys ≡ xs → Adds b c (sequence (map (reads_of scope b.space) ys)) → Adds b c (reads_of scope b.space x)
  in-Call name xs ys is same h = by_form (e.Call name xs) (sequence (map reads ys)) is (forms.reads-Call scope b.space name xs ∙ ap (λ zs. sequence (map reads zs)) (sym same)) h

  pub in-All : (xs ys : List Expr) → x ≡ e.All xs → ys ≡ xs → Adds b c (sequence (map (reads_of scope b.space) ys)) → Adds b c (reads_of scope b.space x)
  in-All xs ys is same h = by_form (e.All xs) (sequence (map reads ys)) is (forms.reads-All scope b.space xs ∙ ap (λ zs. sequence (map reads zs)) (sym same)) h

  pub in-Any : (xs ys : List Expr) → x ≡ e.Any xs → ys ≡ xs → Adds b c (sequence (map (reads_of scope b.space) ys)) → Adds b c (reads_of scope b.space x)
  in-Any xs ys is same h = by_form (e.Any xs) (sequence (map reads ys)) is (forms.reads-Any scope b.space xs ∙ ap (λ zs. sequence (map reads zs)) (sym same)) h

  pub in-Convert : (to : Kind) (y z : Expr) → x ≡ e.Convert to y → z ≡ y → Adds b c (reads_of scope b.space z) → Adds b c (reads_of scope b.space x)
  in-Convert to y z is same h = by_form (e.Convert to y) (reads z) is (forms.reads-Convert scope b.space to y ∙ ap reads (sym same)) h

  pub in-Paren : (y z : Expr) → x ≡ e.Paren y → z ≡ y → Adds b c (reads_of scope b.space z) → Adds b c (reads_of scope b.space x)
  in-Paren y z is same h = by_form (e.Paren y) (reads z) is (forms.reads-Paren scope b.space y ∙ ap reads (sym same)) h

  pub in-Minus : (y z : Expr) → x ≡ e.Minus y → z ≡ y → Adds b c (reads_of scope b.space z) → Adds b c (reads_of scope b.space x)
  in-Minus y z is same h = by_form (e.Minus y) (reads z) is (forms.reads-Minus scope b.space y ∙ ap reads (sym same)) h

  pub in-Not : (y z : Expr) → x ≡ e.Not y → z ≡ y → Adds b c (reads_of scope b.space z) → Adds b c (reads_of scope b.space x)
  in-Not y z is same h = by_form (e.Not y) (reads z) is (forms.reads-Not scope b.space y ∙ ap reads (sym same)) h

  pub in-Element : (name : Name) (y z : Expr) → x ≡ e.Element name y → z ≡ y → Adds b c (element_piece scope b.space name z) → Adds b c (reads_of scope b.space x)
  in-Element name y z is same h = by_form (e.Element name y) (element_piece scope b.space name z) is (forms.reads-Element scope b.space name y ∙ ap (element_piece scope b.space name) (sym same)) h

  pub in-Chain : (y z : Expr) (xs ys : List ChainPart) (m : Builder) → x ≡ e.Chain y xs → z ≡ y → ys ≡ xs → Adds b m (reads_of scope b.space z)
      → Adds m c (sequence (map (λ p. reads_of scope m.space p.operand) ys)) → Adds b c (reads_of scope b.space x)
  in-Chain y z xs ys m is same alike h k =
      let rest = sequence (map (λ p. reads_of scope b.space p.operand) ys) in
      let space = same_space b m (reads z) h in
      by_form (e.Chain y xs) (behind (reads z) rest) is
      (forms.reads-Chain scope b.space y xs ∙ (λ i. behind (reads (sym same i)) (sequence (map (λ p. reads p.operand) (sym alike i)))))
      (adds_behind b m c (reads z) rest (good_reads scope b.space z) h (subst (λ s. Adds m c (sequence (map (λ p. reads_of scope s p.operand) ys))) space k))

  pub in-Compare : (op : ScalarOp) (y z u v : Expr) (m : Builder) → x ≡ e.Compare op y z → u ≡ y → v ≡ z → Adds b m (reads_of scope b.space u)
      → Adds m c (reads_of scope m.space v) → Adds b c (reads_of scope b.space x)
  in-Compare op y z u v m is same alike h k =
      by_form (e.Compare op y z) (behind (reads u) (reads v)) is
      (forms.reads-Compare scope b.space op y z ∙ (λ i. behind (reads (sym same i)) (reads (sym alike i))))
      (then_reads scope b m c (reads u) v (good_reads scope b.space u) h k)

  pub in-If : (y z w u v t : Expr) (m k : Builder) → x ≡ e.If y z w → u ≡ y → v ≡ z → t ≡ w → Adds b m (reads_of scope b.space u)
      → Adds m k (reads_of scope m.space v) → Adds k c (reads_of scope k.space t) → Adds b c (reads_of scope b.space x)
  in-If y z w u v t m k is same alike too h i j =
      let space = same_space b m (reads u) h in
      let second = same_reads scope b m k (reads u) v h i in
      let third : Adds k c (reads_of scope m.space t) = same_reads scope m k c (reads_of scope m.space v) t i j in
      by_form (e.If y z w) (behind (reads u) (behind (reads v) (reads t))) is
      (forms.reads-If scope b.space y z w ∙ (λ i. behind (reads (sym same i)) (behind (reads (sym alike i)) (reads (sym too i)))))
      (adds_behind b m c (reads u) (behind (reads v) (reads t)) (good_reads scope b.space u) h
      (adds_behind m k c (reads v) (reads t) (good_reads scope b.space v) second (subst (λ s. Adds k c (reads_of scope s t)) space third)))
