-- An index that is a line reads no elements, so that a statement has the points that the rules count.
use Rattle.std.proofs.Common.{◌≡◌, ℕ, ◌+◌, false, ℤ, Option, Some, None, List, [], ◌∷◌, ◌++◌, map, length, sum, refl, sym, subst, ◌∙◌, arith}
use Rattle.std.specs.Prelude.{fold, flat_map, is_none}
use Rattle.std.specs.List.{list_any}
use Rattle.std.proofs.lemmas.Bool.{or_parts}
use Rattle.std.proofs.lemmas.List.Sums.{sum_by-cons}
use Rattle.pts_types.specs.declared.operation.ScalarOp.{ScalarOp}
use Rattle.pts_tree.specs.declared.call.CallForm.{CallForm}
use Rattle.pts_tree.specs.declared.call.CallForm.TheVariants as calls
use Rattle.pts_tree.specs.declared.sum.Range.{Range}
use Rattle.pts_tree.specs.declared.expr.Expr.{Expr, roll-Expr}
use Rattle.pts_tree.specs.declared.expr.Expr.TheOpen.{Expr-F}
use Rattle.pts_tree.specs.declared.expr.Expr.TheVariants as e
use Rattle.pts_tree.specs.declared.expr.Expr.TheFolds.{map-Expr, ind-Expr}
use Rattle.pts_tree.specs.declared.expr.ChainPart.{ChainPart}
use Rattle.pts_tree.specs.declared.expr.Place.{Place}
use Rattle.pts_tree.specs.declared.loops.Clause.{Clause}
use Rattle.pts_tree.specs.declared.loops.Clause.TheVariants as clauses
use Rattle.pts_tree.specs.declared.loops.Initial.{Initial}
use Rattle.pts_tree.specs.declared.loops.Initial.TheVariants as initials
use Rattle.pts_tree.specs.declared.loops.BodyStmt.{BodyStmt}
use Rattle.pts_tree.specs.declared.script.Item.{Item}
use Rattle.pts_rules.specs.Parts.{Name, Simple, Throw, Assign, Call, Loop, statements}
use Rattle.pts_rules.specs.Known.{Scope}
use Rattle.pts_rules.specs.Counts.{reads, body_points, clause_points, own_points, there, statement_points}
use Rattle.pts_rules.specs.Limits as limits
use Rattle.pts_rules.specs.Indices.{Affine, Reading, combined, minus_affine, next_affine, reading, affine_of, index_not_affine, has_not_affine, elements, places}
use Rattle.pts_rules.proofs.Readings as form
use Rattle.pts_rules.proofs.ElementCounts as count
use Rattle.pts_points.specs.declared.space.IterationSpace.{IterationSpace}
use Rattle.pts_points.specs.Lines.{space_of, no_loop}
use Rattle.pts_points.specs.Building.{points_among}
use Rattle.pts_points.specs.Pieces.{Piece, sequence}
use Rattle.pts_points.specs.Points.{body_piece, clause_piece, initial_piece, own_piece, piece_of, source_piece, target_piece, answer_piece, statement_piece, item_points}
use Rattle.pts_points.proofs.Each.{Each, front, back}
use Rattle.pts_points.proofs.StatementForms.{by_bodies}
use Rattle.pts_points.proofs.StatementTurns.{points_count}
use Rattle.pts_points.proofs.Wholes.{counted}

-- where there is a value, the number is 0
abbrev IsClear : {A : Type 0} → Option A → ℕ → Type 0
IsClear None n = Unit {0}
IsClear (Some x) n = n ≡ 0

clear : {A : Type 0} (o : Option A) (n : ℕ) → n ≡ 0 → IsClear o n
clear None n h = tt
clear (Some x) n h = h

next_clear : (o : Option Affine) (op : ScalarOp) (p : Option Affine) (n m : ℕ) → IsClear o n → IsClear p m → IsClear (next_affine o (op, p)) (n + m)
next_clear None op p n m h k = tt
next_clear (Some x) op None n m h k = tt
next_clear (Some x) op (Some y) n m h k = let a : n ≡ 0 = h in let b : m ≡ 0 = k in clear (combined op x y) (n + m) (omega (arith, a, b))

minus_clear : (z : Option ℤ) (o : Option Affine) (n : ℕ) → IsClear z n → IsClear o n → IsClear (minus_affine z o) n
minus_clear (Some z) o n h k = clear (minus_affine (Some z) o) n h
minus_clear None None n h k = tt
minus_clear None (Some x) n h k = clear (minus_affine None (Some x)) n k

module _ (scope : Scope) (index : Option Name) where
  -- an expression with a factor and an offset, or one that is a number by itself, reads nothing
  abbrev ReadsNothing : Expr → Type 0
  ReadsNothing x = IsClear (affine_of scope index x) (reads x) × IsClear (reading scope index x).literal (reads x)

  abbrev Known : Type 0
  Known = (x : Expr) × ReadsNothing x

  abbrev KnownPart : Type 0
  KnownPart = (x : ChainPart) × ReadsNothing x.operand

  said : (x : Expr) (r : Reading) (n : ℕ) → reading scope index x ≡ r → reads x ≡ n → IsClear r.affine n → IsClear r.literal n → ReadsNothing x
  said x r n p q h k = (
    subst (λ z. IsClear z.affine (reads x)) (sym p) (subst (IsClear r.affine) (sym q) h),
    subst (λ z. IsClear z.literal (reads x)) (sym p) (subst (IsClear r.literal) (sym q) k),
  )

  bare : (x : Expr) → reads x ≡ 0 → ReadsNothing x
  bare x h = (clear (affine_of scope index x) (reads x) h, clear (reading scope index x).literal (reads x) h)

  chain_clear : (ys : List KnownPart) (o : Option Affine) (n : ℕ) → IsClear o n
      → IsClear (fold next_affine o (map (λ p. (p.op, affine_of scope index p.operand)) (map (λ (y : KnownPart). y.0) ys))) (n + sum (map (λ p. reads p.operand) (map (λ (y : KnownPart). y.0) ys)))
  chain_clear [] o n h = subst (IsClear o) (omega arith) h
  chain_clear (y ∷ ys) o n h =
      let ps = map (λ (z : KnownPart). z.0) ys in
      let own = y.0.operand in
      let next = next_affine o (y.0.op, affine_of scope index own) in
      let rest = chain_clear ys next (n + reads own) (next_clear o y.0.op (affine_of scope index own) n (reads own) h y.1.0) in
      let all : sum (map (λ p. reads p.operand) (y.0 ∷ ps)) ≡ reads own + sum (map (λ p. reads p.operand) ps) = sum_by-cons (λ m. m) (reads own) (map (λ p. reads p.operand) ps) in
      subst (IsClear (fold next_affine next (map (λ p. (p.op, affine_of scope index p.operand)) ps))) (omega (arith, all)) rest

  by_form : (y : Expr-F Known KnownPart) → ReadsNothing (roll-Expr (map-Expr Known KnownPart Expr ChainPart (λ z. z.0) (λ z. z.0) y))
  by_form (Expr-F.Number n) = subst ReadsNothing (sym (e.rolls-Number n)) (bare (e.Number n) (count.reads-Number n))
  by_form Expr-F.True = subst ReadsNothing (sym e.rolls-True) (bare e.True count.reads-True)
  by_form Expr-F.False = subst ReadsNothing (sym e.rolls-False) (bare e.False count.reads-False)
  by_form (Expr-F.Name name) = subst ReadsNothing (sym (e.rolls-Name name)) (bare (e.Name name) (count.reads-Name name))
  by_form (Expr-F.Throw n) = subst ReadsNothing (sym (e.rolls-Throw n)) (bare (e.Throw n) (count.reads-Throw n))
  by_form (Expr-F.Element name y) = subst ReadsNothing (sym (e.rolls-Element name y.0)) (said (e.Element name y.0) _ _ (form.reading-Element scope index name y.0) (count.reads-Element name y.0) tt tt)
  by_form (Expr-F.Convert to y) = subst ReadsNothing (sym (e.rolls-Convert to y.0)) (said (e.Convert to y.0) _ _ (form.reading-Convert scope index to y.0) (count.reads-Convert to y.0) tt tt)
  by_form (Expr-F.Not y) = subst ReadsNothing (sym (e.rolls-Not y.0)) (said (e.Not y.0) _ _ (form.reading-Not scope index y.0) (count.reads-Not y.0) tt tt)
  by_form (Expr-F.Compare op y z) = subst ReadsNothing (sym (e.rolls-Compare op y.0 z.0)) (said (e.Compare op y.0 z.0) _ _ (form.reading-Compare scope index op y.0 z.0) (count.reads-Compare op y.0 z.0) tt tt)
  by_form (Expr-F.If x y z) = subst ReadsNothing (sym (e.rolls-If x.0 y.0 z.0)) (said (e.If x.0 y.0 z.0) _ _ (form.reading-If scope index x.0 y.0 z.0) (count.reads-If x.0 y.0 z.0) tt tt)
  by_form (Expr-F.Call name ys) =
      let xs = map (λ (z : Known). z.0) ys in
      subst ReadsNothing (sym (e.rolls-Call name xs)) (said (e.Call name xs) _ _ (form.reading-Call scope index name xs) (count.reads-Call name xs) tt tt)
  by_form (Expr-F.All ys) =
      let xs = map (λ (z : Known). z.0) ys in
      subst ReadsNothing (sym (e.rolls-All xs)) (said (e.All xs) _ _ (form.reading-All scope index xs) (count.reads-All xs) tt tt)
  by_form (Expr-F.Any ys) =
      let xs = map (λ (z : Known). z.0) ys in
      subst ReadsNothing (sym (e.rolls-Any xs)) (said (e.Any xs) _ _ (form.reading-Any scope index xs) (count.reads-Any xs) tt tt)
  by_form (Expr-F.Paren y) = subst ReadsNothing (sym (e.rolls-Paren y.0)) (said (e.Paren y.0) _ _ (form.reading-Paren scope index y.0) (count.reads-Paren y.0) y.1.0 tt)
  by_form (Expr-F.Minus y) =
      subst ReadsNothing (sym (e.rolls-Minus y.0))
      (said (e.Minus y.0) _ _ (form.reading-Minus scope index y.0) (count.reads-Minus y.0) (minus_clear (reading scope index y.0).literal (affine_of scope index y.0) (reads y.0) y.1.1 y.1.0) tt)
  by_form (Expr-F.Chain y ys) =
      let ps = map (λ (z : KnownPart). z.0) ys in
      subst ReadsNothing (sym (e.rolls-Chain y.0 ps))
      (said (e.Chain y.0 ps) _ _ (form.reading-Chain scope index y.0 ps) (count.reads-Chain y.0 ps) (chain_clear ys (affine_of scope index y.0) (reads y.0) y.1.0) tt)

  pub reads_nothing : (x : Expr) → ReadsNothing x
  reads_nothing = ind-Expr ReadsNothing (λ part. ReadsNothing part.operand) (λ x y is. subst (λ z. ReadsNothing (roll-Expr z)) is (by_form y)) (λ x y is. subst (λ z. ReadsNothing z.operand) is y.operand.1)

  clear_none : {A : Type 0} (o : Option A) (n : ℕ) → is_none o ≡ false → IsClear o n → n ≡ 0
  clear_none None n h k = absurd (cc)
  clear_none (Some x) n h k = k

  abbrev IsIndex : Place → Type 0
  IsIndex at = reads at.index ≡ 0

  pub indices_read_nothing : (xs : List Place) → list_any (index_not_affine scope index) xs ≡ false → Each IsIndex xs
  indices_read_nothing [] h = tt
  indices_read_nothing (x ∷ xs) h =
      let parts = or_parts (index_not_affine scope index x) (list_any (index_not_affine scope index) xs) h in
      (clear_none (affine_of scope index x.index) (reads x.index) parts.0 (reads_nothing x.index).0, indices_read_nothing xs parts.1)

-- ---- bodies

abbrev IsRead : Place → Type 0
IsRead at = reads at.index ≡ 0

body_counted : (scope : Scope) (space : IterationSpace) (xs : List BodyStmt) → Each IsRead (flat_map places xs) → (body_piece scope space xs).size ≡ sum (map body_points xs)
body_counted scope space =
    by_bodies scope space (λ ps n x. Each IsRead ps → x.size ≡ n) (λ h. refl)
    (λ ps qs i j x y f g h. let a = f (front IsRead ps qs h) in let b = g (back IsRead ps qs h) in omega (arith, a, b))
    (λ at x h. let a : reads at.index ≡ 0 = h.0 in let b = counted scope space at.index in let c = counted scope space x in omega (arith, a, b, c))
    (λ name x h. let c = counted scope space x in omega (arith, c))
    (λ name x h. let c = counted scope space x in omega (arith, c))
    (λ c ps qs i j x y f g h.
    let own = counted scope space c in
    let a = f (back IsRead (elements c) ps (front IsRead (elements c ++ ps) qs h)) in
    let b = g (back IsRead (elements c ++ ps) qs h) in
    omega (arith, own, a, b))
    (λ ps i x f h. f h)
    (λ at op x h. let a : reads at.index ≡ 0 = h.0 in let b = counted scope space at.index in let c = counted scope space x in omega (arith, a, b, c))

-- ---- statements

clause_counted : (scope : Scope) (x : Clause) → (clause_piece scope x).size ≡ clause_points x
clause_counted scope (clauses.Reduce x) = refl
clause_counted scope (clauses.Induct x) = by_initial x.initial
  where
    by_initial : (y : Initial) → (initial_piece scope y).size ≡ elim y [ initials.Val z ↦ 0 | initials.Cell z ↦ 1 ]
    by_initial (initials.Val y) = refl
    by_initial (initials.Cell y) = refl

clauses_counted : (scope : Scope) (xs : List Clause) → (sequence (map (clause_piece scope) xs)).size ≡ sum (map clause_points xs)
clauses_counted scope [] = refl
clauses_counted scope (x ∷ xs) =
    let own = clause_counted scope x in
    let rest = clauses_counted scope xs in
    let all : sum (map clause_points (x ∷ xs)) ≡ clause_points x + sum (map clause_points xs) = sum_by-cons (λ m. m) (clause_points x) (map clause_points xs) in
    omega (arith, own, rest, all)

there_counted : {A : Type 0} (f : A → Piece) → ((x : A) → (f x).size ≡ 1) → (o : Option A) → (piece_of f o).size ≡ there o
there_counted f one None = refl
there_counted f one (Some x) = one x

own_counted : (scope : Scope) (form : CallForm) (x : Range) → (own_piece scope form x).size + 1 ≡ own_points form
own_counted scope calls.ForEach x = refl
own_counted scope calls.Transform x = refl
own_counted scope calls.FindIf x = refl
own_counted scope calls.CountIf x = refl
own_counted scope calls.Reduce x = refl
own_counted scope calls.TransformReduce x = refl
own_counted scope calls.InclusiveScan x = refl
own_counted scope calls.ExclusiveScan x = refl
own_counted scope calls.TransformInclusiveScan x = refl
own_counted scope calls.TransformExclusiveScan x = refl

statement_counted : (scope : Scope) (x : Simple) → has_not_affine scope x ≡ false → (statement_piece scope x).size ≡ statement_points x
statement_counted scope (Throw n) h = refl
statement_counted scope (Assign at x) h = let c = counted scope no_loop x in omega (arith, c)
statement_counted scope (Call x) h =
    let second = there_counted (source_piece scope) (λ y. refl) x.second in
    let own = own_counted scope x.form x.first in
    let target = there_counted (target_piece scope) (λ y. refl) x.target in
    let store = there_counted (answer_piece scope) (λ y. refl) x.store in
    omega (arith, second, own, target, store)
statement_counted scope (Loop x) h =
    let heads = clauses_counted scope x.clauses in
    let body = body_counted scope (space_of scope x) x.body (indices_read_nothing scope (Some x.index) (flat_map places x.body) h) in
    omega (arith, heads, body)

all_counted : (scope : Scope) (xs : List Simple) → list_any (has_not_affine scope) xs ≡ false → points_among scope xs ≡ sum (map statement_points xs)
all_counted scope [] h = refl
all_counted scope (x ∷ xs) h =
    let parts = or_parts (has_not_affine scope x) (list_any (has_not_affine scope) xs) h in
    let own = statement_counted scope x parts.0 in
    let rest = all_counted scope xs parts.1 in
    let all : sum (map statement_points (x ∷ xs)) ≡ statement_points x + sum (map statement_points xs) = sum_by-cons (λ m. m) (statement_points x) (map statement_points xs) in
    omega (arith, own, rest, all)

-- an item whose indices are lines has the points that the rules count
pub points_counted : (scope : Scope) (x : Item) → list_any (has_not_affine scope) (statements x) ≡ false → points_among scope (statements x) ≡ limits.points x
points_counted scope x h = all_counted scope (statements x) h

pub list_counted : (scope : Scope) (earlier : ℕ) (x : Item) → list_any (has_not_affine scope) (statements x) ≡ false → length (item_points scope earlier x) ≡ limits.points x
list_counted scope earlier x h = points_count scope 0 0 earlier (statements x) ∙ points_counted scope x h
