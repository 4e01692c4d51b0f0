-- The Reads of an expression, form by form, and what holds of all of them.
use Rattle.std.proofs.Common.{◌≡◌, ℕ, ◌+◌, List, [], ◌∷◌, ◌++◌, map, sum, refl, sym, ap, subst, ◌∙◌, append_assoc, arith}
use Rattle.std.specs.Prelude.{flat_map}
use Rattle.std.proofs.lemmas.List.Sums.{sum_by-cons}
use Rattle.pts_types.specs.declared.value.Kind.{Kind}
use Rattle.pts_types.specs.declared.operation.ScalarOp.{ScalarOp}
use Rattle.pts_tree.specs.declared.expr.Expr.{Expr, roll-Expr}
use Rattle.pts_tree.specs.declared.expr.Expr.TheOpen.{Expr-F}
use Rattle.pts_tree.specs.declared.expr.Expr.TheVariants as e
use Rattle.pts_tree.specs.declared.expr.Expr.TheViews.{out-ChainPart, roll-out-ChainPart}
use Rattle.pts_tree.specs.declared.expr.Expr.TheFolds.{map-Expr, ind-Expr, para-ChainPart, para-roll-Expr, para-roll-ChainPart}
use Rattle.pts_tree.specs.declared.expr.ChainPart.{ChainPart}
use Rattle.pts_tree.specs.declared.expr.Place.{Place}
use Rattle.pts_rules.specs.Known.{Scope}
use Rattle.pts_rules.specs.Counts as counts
use Rattle.pts_rules.specs.Indices.{elements}
use Rattle.pts_rules.proofs.Elements as el
use Rattle.pts_rules.proofs.ElementCounts as count
use Rattle.pts_points.specs.declared.space.IterationSpace.{IterationSpace}
use Rattle.pts_points.specs.Pieces.{Context, Deed, Reads, Piece, nothing, behind, sequence, served}
use Rattle.pts_points.specs.Points.{array_at, index_of, reads_of, reads_step}

module _ (scope : Scope) (space : IterationSpace) where
  abbrev reads : Expr → Piece
  reads = reads_of scope space

  -- a read of an element
  abbrev pub read_deed : List ℕ → Expr → Context → ℕ → Deed
  read_deed name x context n = Reads (array_at scope name) (index_of scope space x context n)

  abbrev part_step : ChainPart → Piece
  part_step = para-ChainPart Piece Piece (reads_step scope space) (λ part. part.operand.1)

  each_of : (xs : List Expr) → map {A = Expr × Piece} (λ y. y.1) (map (λ y. (y, reads y)) xs) ≡ map reads xs
  each_of [] = refl
  each_of (x ∷ xs) = ap (λ ys. reads x ∷ ys) (each_of xs)

  of_part : (x : ChainPart) → part_step x ≡ reads x.operand
  unfolding reads_of
  of_part x = ap part_step (sym (roll-out-ChainPart x)) ∙ para-roll-ChainPart Piece Piece (reads_step scope space) (λ part. part.operand.1) (out-ChainPart x)

  operands_of : (xs : List ChainPart) → map {A = ChainPart × Piece} (λ y. y.1) (map (λ y. (y, part_step y)) xs) ≡ map (λ y. reads y.operand) xs
  operands_of [] = refl
  operands_of (x ∷ xs) = λ i. of_part x i ∷ operands_of xs i

  pub reads-Number : (n : ℕ) → reads (e.Number n) ≡ nothing
  unfolding reads_of
  reads-Number n = ap reads (sym (e.rolls-Number n)) ∙ para-roll-Expr Piece Piece (reads_step scope space) (λ part. part.operand.1) (Expr-F.Number n)

  pub reads-True : reads e.True ≡ nothing
  unfolding reads_of
  reads-True = ap reads (sym e.rolls-True) ∙ para-roll-Expr Piece Piece (reads_step scope space) (λ part. part.operand.1) Expr-F.True

  pub reads-False : reads e.False ≡ nothing
  unfolding reads_of
  reads-False = ap reads (sym e.rolls-False) ∙ para-roll-Expr Piece Piece (reads_step scope space) (λ part. part.operand.1) Expr-F.False

  pub reads-Name : (name : List ℕ) → reads (e.Name name) ≡ nothing
  unfolding reads_of
  reads-Name name = ap reads (sym (e.rolls-Name name)) ∙ para-roll-Expr Piece Piece (reads_step scope space) (λ part. part.operand.1) (Expr-F.Name name)

  pub reads-Call : (name : List ℕ) (xs : List Expr) → reads (e.Call name xs) ≡ sequence (map reads xs)
  unfolding reads_of
  reads-Call name xs = ap reads (sym (e.rolls-Call name xs)) ∙ para-roll-Expr Piece Piece (reads_step scope space) (λ part. part.operand.1) (Expr-F.Call name xs) ∙ ap sequence (each_of xs)

  pub reads-Element : (name : List ℕ) (x : Expr) → reads (e.Element name x) ≡ served (reads x) (read_deed name x)
  unfolding reads_of
  reads-Element name x = ap reads (sym (e.rolls-Element name x)) ∙ para-roll-Expr Piece Piece (reads_step scope space) (λ part. part.operand.1) (Expr-F.Element name x)

  pub reads-Convert : (to : Kind) (x : Expr) → reads (e.Convert to x) ≡ reads x
  unfolding reads_of
  reads-Convert to x = ap reads (sym (e.rolls-Convert to x)) ∙ para-roll-Expr Piece Piece (reads_step scope space) (λ part. part.operand.1) (Expr-F.Convert to x)

  pub reads-Throw : (n : ℕ) → reads (e.Throw n) ≡ nothing
  unfolding reads_of
  reads-Throw n = ap reads (sym (e.rolls-Throw n)) ∙ para-roll-Expr Piece Piece (reads_step scope space) (λ part. part.operand.1) (Expr-F.Throw n)

  pub reads-Paren : (x : Expr) → reads (e.Paren x) ≡ reads x
  unfolding reads_of
  reads-Paren x = ap reads (sym (e.rolls-Paren x)) ∙ para-roll-Expr Piece Piece (reads_step scope space) (λ part. part.operand.1) (Expr-F.Paren x)

  pub reads-Minus : (x : Expr) → reads (e.Minus x) ≡ reads x
  unfolding reads_of
  reads-Minus x = ap reads (sym (e.rolls-Minus x)) ∙ para-roll-Expr Piece Piece (reads_step scope space) (λ part. part.operand.1) (Expr-F.Minus x)

  pub reads-Not : (x : Expr) → reads (e.Not x) ≡ reads x
  unfolding reads_of
  reads-Not x = ap reads (sym (e.rolls-Not x)) ∙ para-roll-Expr Piece Piece (reads_step scope space) (λ part. part.operand.1) (Expr-F.Not x)

  pub reads-Chain : (x : Expr) (parts : List ChainPart) → reads (e.Chain x parts) ≡ behind (reads x) (sequence (map (λ y. reads y.operand) parts))
  unfolding reads_of
  reads-Chain x parts = ap reads (sym (e.rolls-Chain x parts)) ∙ para-roll-Expr Piece Piece (reads_step scope space) (λ part. part.operand.1) (Expr-F.Chain x parts) ∙ ap (λ ys. behind (reads x) (sequence ys)) (operands_of parts)

  pub reads-Compare : (op : ScalarOp) (x y : Expr) → reads (e.Compare op x y) ≡ behind (reads x) (reads y)
  unfolding reads_of
  reads-Compare op x y = ap reads (sym (e.rolls-Compare op x y)) ∙ para-roll-Expr Piece Piece (reads_step scope space) (λ part. part.operand.1) (Expr-F.Compare op x y)

  pub reads-All : (xs : List Expr) → reads (e.All xs) ≡ sequence (map reads xs)
  unfolding reads_of
  reads-All xs = ap reads (sym (e.rolls-All xs)) ∙ para-roll-Expr Piece Piece (reads_step scope space) (λ part. part.operand.1) (Expr-F.All xs) ∙ ap sequence (each_of xs)

  pub reads-Any : (xs : List Expr) → reads (e.Any xs) ≡ sequence (map reads xs)
  unfolding reads_of
  reads-Any xs = ap reads (sym (e.rolls-Any xs)) ∙ para-roll-Expr Piece Piece (reads_step scope space) (λ part. part.operand.1) (Expr-F.Any xs) ∙ ap sequence (each_of xs)

  pub reads-If : (x y z : Expr) → reads (e.If x y z) ≡ behind (reads x) (behind (reads y) (reads z))
  unfolding reads_of
  reads-If x y z = ap reads (sym (e.rolls-If x y z)) ∙ para-roll-Expr Piece Piece (reads_step scope space) (λ part. part.operand.1) (Expr-F.If x y z)

  -- ---- what holds of nothing, of pieces behind each other and of each Read holds of the Reads of every expression, beside
  -- the elements that it reads and their number
  module _ (P : List Place → ℕ → Piece → Type 0) (none : P [] 0 nothing)
      (more : (xs ys : List Place) (m n : ℕ) (x y : Piece) → P xs m x → P ys n y → P (xs ++ ys) (m + n) (behind x y))
      (one : (name : List ℕ) (x : Expr) → P (elements x) (counts.reads x) (reads x)
      → P (record { array = name; index = x } ∷ elements x) (1 + counts.reads x) (served (reads x) (read_deed name x))) where
    abbrev Holds : Expr → Type 0
    Holds x = P (elements x) (counts.reads x) (reads x)

    abbrev Known : Type 0
    Known = (x : Expr) × Holds x

    abbrev KnownPart : Type 0
    KnownPart = (x : ChainPart) × Holds x.operand

    -- from what the elements, the count and the Reads of a form are
    said : (x : Expr) (xs : List Place) (n : ℕ) (y : Piece) → elements x ≡ xs → counts.reads x ≡ n → reads x ≡ y → P xs n y → Holds x
    said x xs n y a b c h = subst (λ z. P z (counts.reads x) (reads x)) (sym a) (subst (λ z. P xs z (reads x)) (sym b) (subst (λ z. P xs n z) (sym c) h))

    all_known : (ys : List Known) → P (flat_map elements (map (λ (y : Known). y.0) ys)) (sum (map counts.reads (map (λ (y : Known). y.0) ys))) (sequence (map reads (map (λ (y : Known). y.0) ys)))
    all_known [] = none
    all_known (y ∷ ys) =
        let xs = map (λ (z : Known). z.0) ys in
        subst (λ n. P (elements y.0 ++ flat_map elements xs) n (behind (reads y.0) (sequence (map reads xs)))) (sym (sum_by-cons (λ m. m) (counts.reads y.0) (map counts.reads xs)))
        (more (elements y.0) (flat_map elements xs) (counts.reads y.0) (sum (map counts.reads xs)) (reads y.0) (sequence (map reads xs)) y.1 (all_known ys))

    parts_known : (ys : List KnownPart)
        → P (flat_map (λ p. elements p.operand) (map (λ (y : KnownPart). y.0) ys)) (sum (map (λ p. counts.reads p.operand) (map (λ (y : KnownPart). y.0) ys))) (sequence (map (λ p. reads p.operand) (map (λ (y : KnownPart). y.0) ys)))
    parts_known [] = none
    parts_known (y ∷ ys) =
        let xs = map (λ (z : KnownPart). z.0) ys in
        let own = y.0.operand in
        subst (λ n. P (elements own ++ flat_map (λ p. elements p.operand) xs) n (behind (reads own) (sequence (map (λ p. reads p.operand) xs)))) (sym (sum_by-cons (λ m. m) (counts.reads own) (map (λ p. counts.reads p.operand) xs)))
        (more (elements own) (flat_map (λ p. elements p.operand) xs) (counts.reads own) (sum (map (λ p. counts.reads p.operand) xs)) (reads own) (sequence (map (λ p. reads p.operand) xs)) y.1 (parts_known ys))

    by_form : (y : Expr-F Known KnownPart) → Holds (roll-Expr (map-Expr Known KnownPart Expr ChainPart (λ z. z.0) (λ z. z.0) y))
    by_form (Expr-F.Number n) = subst Holds (sym (e.rolls-Number n)) (said (e.Number n) [] 0 nothing (el.elements-Number n) (count.reads-Number n) (reads-Number n) none)
    by_form Expr-F.True = subst Holds (sym e.rolls-True) (said e.True [] 0 nothing el.elements-True count.reads-True reads-True none)
    by_form Expr-F.False = subst Holds (sym e.rolls-False) (said e.False [] 0 nothing el.elements-False count.reads-False reads-False none)
    by_form (Expr-F.Name name) = subst Holds (sym (e.rolls-Name name)) (said (e.Name name) [] 0 nothing (el.elements-Name name) (count.reads-Name name) (reads-Name name) none)
    by_form (Expr-F.Call name ys) =
        let xs = map (λ (z : Known). z.0) ys in
        subst Holds (sym (e.rolls-Call name xs)) (said (e.Call name xs) (flat_map elements xs) (sum (map counts.reads xs)) (sequence (map reads xs)) (el.elements-Call name xs) (count.reads-Call name xs) (reads-Call name xs) (all_known ys))
    by_form (Expr-F.Element name y) =
        subst Holds (sym (e.rolls-Element name y.0)) (said (e.Element name y.0) (record { array = name; index = y.0 } ∷ elements y.0) (1 + counts.reads y.0) (served (reads y.0) (read_deed name y.0)) (el.elements-Element name y.0) (count.reads-Element name y.0) (reads-Element name y.0) (one name y.0 y.1))
    by_form (Expr-F.Convert to y) = subst Holds (sym (e.rolls-Convert to y.0)) (said (e.Convert to y.0) (elements y.0) (counts.reads y.0) (reads y.0) (el.elements-Convert to y.0) (count.reads-Convert to y.0) (reads-Convert to y.0) y.1)
    by_form (Expr-F.Throw n) = subst Holds (sym (e.rolls-Throw n)) (said (e.Throw n) [] 0 nothing (el.elements-Throw n) (count.reads-Throw n) (reads-Throw n) none)
    by_form (Expr-F.Paren y) = subst Holds (sym (e.rolls-Paren y.0)) (said (e.Paren y.0) (elements y.0) (counts.reads y.0) (reads y.0) (el.elements-Paren y.0) (count.reads-Paren y.0) (reads-Paren y.0) y.1)
    by_form (Expr-F.Minus y) = subst Holds (sym (e.rolls-Minus y.0)) (said (e.Minus y.0) (elements y.0) (counts.reads y.0) (reads y.0) (el.elements-Minus y.0) (count.reads-Minus y.0) (reads-Minus y.0) y.1)
    by_form (Expr-F.Not y) = subst Holds (sym (e.rolls-Not y.0)) (said (e.Not y.0) (elements y.0) (counts.reads y.0) (reads y.0) (el.elements-Not y.0) (count.reads-Not y.0) (reads-Not y.0) y.1)
    by_form (Expr-F.Chain y ys) =
        let xs = map (λ (z : KnownPart). z.0) ys in
        let rest = sequence (map (λ p. reads p.operand) xs) in
        subst Holds (sym (e.rolls-Chain y.0 xs)) (said (e.Chain y.0 xs) (elements y.0 ++ flat_map (λ p. elements p.operand) xs) (counts.reads y.0 + sum (map (λ p. counts.reads p.operand) xs)) (behind (reads y.0) rest)
        (el.elements-Chain y.0 xs) (count.reads-Chain y.0 xs) (reads-Chain y.0 xs)
        (more (elements y.0) (flat_map (λ p. elements p.operand) xs) (counts.reads y.0) (sum (map (λ p. counts.reads p.operand) xs)) (reads y.0) rest y.1 (parts_known ys)))
    by_form (Expr-F.Compare op y z) =
        subst Holds (sym (e.rolls-Compare op y.0 z.0)) (said (e.Compare op y.0 z.0) (elements y.0 ++ elements z.0) (counts.reads y.0 + counts.reads z.0) (behind (reads y.0) (reads z.0))
        (el.elements-Compare op y.0 z.0) (count.reads-Compare op y.0 z.0) (reads-Compare op y.0 z.0)
        (more (elements y.0) (elements z.0) (counts.reads y.0) (counts.reads z.0) (reads y.0) (reads z.0) y.1 z.1))
    by_form (Expr-F.All ys) =
        let xs = map (λ (z : Known). z.0) ys in
        subst Holds (sym (e.rolls-All xs)) (said (e.All xs) (flat_map elements xs) (sum (map counts.reads xs)) (sequence (map reads xs)) (el.elements-All xs) (count.reads-All xs) (reads-All xs) (all_known ys))
    by_form (Expr-F.Any ys) =
        let xs = map (λ (z : Known). z.0) ys in
        subst Holds (sym (e.rolls-Any xs)) (said (e.Any xs) (flat_map elements xs) (sum (map counts.reads xs)) (sequence (map reads xs)) (el.elements-Any xs) (count.reads-Any xs) (reads-Any xs) (all_known ys))
    by_form (Expr-F.If x y z) =
        let rest = behind (reads y.0) (reads z.0) in
        let whole : P (elements x.0 ++ (elements y.0 ++ elements z.0)) (counts.reads x.0 + (counts.reads y.0 + counts.reads z.0)) (behind (reads x.0) rest) =
        more (elements x.0) (elements y.0 ++ elements z.0) (counts.reads x.0) (counts.reads y.0 + counts.reads z.0) (reads x.0) rest x.1
        (more (elements y.0) (elements z.0) (counts.reads y.0) (counts.reads z.0) (reads y.0) (reads z.0) y.1 z.1) in
        subst Holds (sym (e.rolls-If x.0 y.0 z.0)) (said (e.If x.0 y.0 z.0) (elements x.0 ++ (elements y.0 ++ elements z.0)) (counts.reads x.0 + (counts.reads y.0 + counts.reads z.0)) (behind (reads x.0) rest)
        (el.elements-If x.0 y.0 z.0 ∙ append_assoc (elements x.0) (elements y.0) (elements z.0)) (count.reads-If x.0 y.0 z.0 ∙ omega arith) (reads-If x.0 y.0 z.0) whole)

    pub by_reads : (x : Expr) → Holds x
    by_reads = ind-Expr Holds (λ part. Holds part.operand) (λ x y is. subst (λ z. Holds (roll-Expr z)) is (by_form y)) (λ x y is. subst (λ z. Holds z.operand) is y.operand.1)
