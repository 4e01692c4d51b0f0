-- The steps of each form of statement.
use Rattle.std.proofs.Common.{◌≡◌, ℕ, ◌+◌, ◌<◌, Option, Some, None, List, [], ◌∷◌, ◌++◌, length, map, get_or, drop, drop-cons, add-one, ◌≤◌, refl, sym, ap, subst, ◌∙◌}
use Rattle.std.specs.Prelude.{unwrap_or}
use Rattle.std.proofs.lemmas.List.{drop_all}
use Rattle.pts_types.specs.declared.value.Kind.{Kind}
use Rattle.pts_types.specs.declared.value.Kind.TheVariants as kinds
use Rattle.pts_types.specs.declared.operation.ScalarOp.{ScalarOp}
use Rattle.pts_affine.specs.declared.line.Line.{Line}
use Rattle.pts_tree.specs.declared.expr.Expr.{Expr}
use Rattle.pts_tree.specs.declared.expr.Place.{Place}
use Rattle.pts_tree.specs.declared.loops.BodyStmt.{BodyStmt}
use Rattle.pts_tree.specs.declared.loops.BodyStmt.TheVariants as b
use Rattle.pts_tree.specs.declared.loops.Clause.{Clause}
use Rattle.pts_tree.specs.declared.loops.Loop as loops
use Rattle.pts_rules.specs.declared.meaning.Meaning.TheVariants.{Value}
use Rattle.pts_rules.specs.Counts.{reads}
use Rattle.pts_rules.specs.Kinds.{let_kind}
use Rattle.pts_rules.specs.Known.{view_of}
use Rattle.pts_rules.specs.Mistyped.{body_scope}
use Rattle.pts_rules.specs.Parts.{Name}
use Rattle.pts_code.specs.declared.code.Code.{Code}
use Rattle.pts_code.specs.declared.compiling.Spot.TheVariants as places
use Rattle.pts_code.specs.Compiling.{IsCode}
use Rattle.pts_points.specs.declared.space.IterationSpace.{IterationSpace}
use Rattle.pts_points.specs.Pieces.{Context, LivesOut, Piece, alone, nothing, sequence, served, served_off, binding, branching}
use Rattle.pts_points.specs.Points.{kind_at, reads_of, both_reads, assign_deed, update_deed, kind_of_let, stmt_piece, body_piece, clause_piece}
use Rattle.pts_points.proofs.Builds.{append_nothing}
use Rattle.pts_points.proofs.StatementForms as forms
use Rattle.pts_points.proofs.StatementForms.{note_deed, give_deed, test_deed, else_piece}
use Rattle.pts_points.proofs.Wholes.{counted}
use Rattle.pts_steps.specs.declared.builder.Builder.{Builder}
use Rattle.pts_steps.specs.declared.step.Step.{Step}
use Rattle.pts_steps.specs.declared.step.Step.TheVariants as steps
use Rattle.pts_steps.specs.Building.{Stands, with_reads, with_step, Goes, GoesInside}
use Rattle.pts_steps.specs.Steps.{Computes, view_number}
use Rattle.pts_steps.proofs.Goings.{computed, goes_behind, goes_bound, goes_branching, goes_none, goes_nothing, goes_served, goes_served_off, kinds_here}
use Rattle.pts_steps.proofs.Spots.{reads_length}
use Rattle.pts_steps.proofs.ReadSteps.{reads_both, reads_here, reads_none}

-- a step behind Reads
made : (b m c : Builder) (k : ℕ) (step : Step) → m ≡ with_reads b k → c ≡ with_step m step → with_step (with_reads b k) step ≡ c
made b m c k step e f = sym (f ∙ ap (λ z. with_step z step) e)

module _ (x : loops.Loop) (space : IterationSpace) (b m c : Builder) (y : Expr) (code : Code) where
  module _ (at : Place) where
    abbrev first_read : ℕ
    first_read = length b.steps + reads at.index

    -- the value for a place
    value_computed : IsCode b.names b.spots (kind_at b.globals at.array) first_read y code → (context : Context) → Stands x b context.lets
        → Computes b.globals x context.lets (record { kind = kind_at b.globals at.array; first = length b.steps + (reads_of b.globals space at.index).size; expr = y }) code
    value_computed is context s =
        let kind = kind_at b.globals at.array in
        computed x b context.lets kind kind first_read (length b.steps + (reads_of b.globals space at.index).size) y code s refl (ap (λ n. length b.steps + n) (sym (counted b.globals space at.index))) is

    pub assigned : m ≡ with_reads b (reads at.index + reads y) → c ≡ with_step m (steps.Write code)
        → IsCode b.names b.spots (kind_at b.globals at.array) first_read y code
        → Goes x b c (served (both_reads b.globals space at y) (assign_deed b.globals space at y))
    assigned e f is =
        let k = reads at.index + reads y in
        let p = both_reads b.globals space at y in
        subst (λ z. Goes x b z (served p (assign_deed b.globals space at y))) (made b m c k (steps.Write code) e f)
        (goes_served x b p k (assign_deed b.globals space at y) (steps.Write code) (reads_both b.globals x b.globals space at y) (λ context head s. value_computed is context s))

    pub updated : (op : ScalarOp) → m ≡ with_reads b (reads at.index + reads y) → c ≡ with_step m (steps.Update op code)
        → IsCode b.names b.spots (kind_at b.globals at.array) first_read y code
        → Goes x b c (served_off (both_reads b.globals space at y) (update_deed b.globals space at op y))
    updated op e f is =
        let k = reads at.index + reads y in
        let p = both_reads b.globals space at y in
        subst (λ z. Goes x b z (served_off p (update_deed b.globals space at op y))) (made b m c k (steps.Update op code) e f)
        (goes_served_off x b p k (update_deed b.globals space at op y) (steps.Update op code) (reads_both b.globals x b.globals space at y) (λ context head s. (refl, value_computed is context s)))

  abbrev own : Piece
  own = reads_of b.globals space y

  pub tested : m ≡ with_reads b (reads y) → c ≡ with_step m (steps.Test code) → IsCode b.names b.spots kinds.Bool (length b.steps) y code
      → Goes x b c (served own (test_deed y))
  tested e f is =
      subst (λ z. Goes x b z (served own (test_deed y))) (made b m c (reads y) (steps.Test code) e f)
      (goes_served x b own (reads y) (test_deed y) (steps.Test code) (reads_here b.globals x b.globals space y)
      (λ context head s. computed x b context.lets kinds.Bool kinds.Bool (length b.steps) (length b.steps) y code s refl refl is))

  pub given : (view : Name) (clause : ℕ) (kind : Kind) → clause ≡ view_number x.clauses view → kind ≡ unwrap_or (view_of b.kinds view) kinds.U64
      → m ≡ with_reads b (reads y) → c ≡ with_step m (steps.Give clause code) → IsCode b.names b.spots kind (length b.steps) y code
      → Goes x b c (served own (give_deed view y))
  given view clause kind number kind_is e f is =
      subst (λ z. Goes x b z (served own (give_deed view y))) (made b m c (reads y) (steps.Give clause code) e f)
      (goes_served x b own (reads y) (give_deed view y) (steps.Give clause code) (reads_here b.globals x b.globals space y)
      (λ context head s. (
        number,
        computed x b context.lets kind _ (length b.steps) (length b.steps) y code s
            (kind_is ∙ ap (λ names. unwrap_or (view_of names view) kinds.U64) (kinds_here x b context head s)) refl is,
      )))

  abbrev noted_step : Step
  noted_step = steps.Note code

  -- the same with a local value more
  abbrev pub with_let : Name → Kind → ℕ → Builder → Builder
  with_let name kind number z =
      record z { kinds = (name, Value kind) ∷ z.kinds; names = (name, Value kind) ∷ z.names; spots = z.spots ++ places.Note number ∷ [] }

  pub noted_let : (d : Builder) (name : Name) (kind : Kind) (number : ℕ) → kind ≡ let_kind b.kinds y → number ≡ length m.steps
      → m ≡ with_reads b (reads y) → c ≡ with_step m noted_step → d ≡ with_let name kind number c
      → IsCode b.names b.spots kind (length b.steps) y code
      → Goes x b d (binding name (kind_of_let y) own (note_deed y))
  noted_let d name kind number kind_is at e f g is =
      let same = λ (context : Context) (head : context.head ≡ body_scope b.globals x) (s : Stands x b context.lets). kind_is ∙ ap (λ names. let_kind names y) (kinds_here x b context head s) in
      let whole : d ≡ with_let name kind number (with_step (with_reads b (reads y)) noted_step) = g ∙ ap (with_let name kind number) (sym (made b m c (reads y) noted_step e f)) in
      subst (λ z. Goes x b z (binding name (kind_of_let y) own (note_deed y))) (sym whole)
      (goes_bound x b own (reads y) (note_deed y) noted_step name kind number (kind_of_let y) (reads_here b.globals x b.globals space y)
      (λ context head s. computed x b context.lets kind _ (length b.steps) (length b.steps) y code s (same context head s) refl is)
      (at ∙ ap (λ z. length z.steps) e ∙ reads_length b (reads y)) same)

-- ---- one behind the other

pub turn : {A : Type 0} (x : loops.Loop) (a b e : Builder) (f : A → Piece) (ys : List A) (at : ℕ) (y : A) → at < length ys → y ≡ get_or ys at y
    → Goes x a b (f y) → Goes x b e (sequence (map f (drop (at + 1) ys))) → Goes x a e (sequence (map f (drop at ys)))
turn x a b e f ys at y less is g h =
    let rest = drop (at + 1) ys in
    let whole : drop at ys ≡ y ∷ rest = drop-cons ys at y less ∙ (λ i. sym is i ∷ drop (sym (add-one at) i) ys) in
    subst (λ zs. Goes x a e (sequence (map f zs))) (sym whole) (goes_behind x a b e (f y) (sequence (map f rest)) g h)

-- nothing is left behind the last
pub turns_end : {A : Type 0} (x : loops.Loop) (b : Builder) (f : A → Piece) (ys : List A) (at : ℕ) → length ys ≤ at → Goes x b b (sequence (map f (drop at ys)))
turns_end x b f ys at all = subst (λ zs. Goes x b b (sequence (map f zs))) (sym (drop_all at ys all)) (goes_none x b)

-- the statements of a body that are left, behind which this is reached
abbrev pub Reaches : loops.Loop → Builder → Builder → List BodyStmt → List BodyStmt → Type 0
Reaches x a b all rest = (space : IterationSpace) (e : Builder) → Goes x b e (body_piece b.globals space rest) → Goes x a e (body_piece a.globals space all)

pub body_turn : (x : loops.Loop) (a b c : Builder) (body : List BodyStmt) (at : ℕ) (y : BodyStmt) → at < length body → y ≡ get_or body at y
    → Reaches x a b body (drop at body) → ((space : IterationSpace) → Goes x b c (stmt_piece b.globals space y)) → Reaches x a c body (drop (at + 1) body)
body_turn x a b c body at y less is h g space e last =
    h space e
    (turn x b c e (stmt_piece b.globals space) body at y less is (g space)
    (subst (λ z. Goes x c e (body_piece z space (drop (at + 1) body))) (g space).globals last))

pub body_end : (x : loops.Loop) (a b : Builder) (body : List BodyStmt) (at : ℕ) → length body ≤ at → Reaches x a b body (drop at body)
    → (space : IterationSpace) → Goes x a b (body_piece a.globals space body)
body_end x a b body at all h space = h space b (turns_end x b (stmt_piece b.globals space) body at all)

-- likewise the clauses
abbrev pub ReachesClauses : Builder → Builder → List Clause → List Clause → Type 0
ReachesClauses a b all rest = (x : loops.Loop) (e : Builder) → Goes x b e (sequence (map (clause_piece b.globals) rest)) → Goes x a e (sequence (map (clause_piece a.globals) all))

pub clause_turn : (a b c : Builder) (cs : List Clause) (at : ℕ) (y : Clause) → at < length cs → y ≡ get_or cs at y
    → ReachesClauses a b cs (drop at cs) → ((x : loops.Loop) → Goes x b c (clause_piece b.globals y)) → ReachesClauses a c cs (drop (at + 1) cs)
clause_turn a b c cs at y less is h g x e last =
    h x e
    (turn x b c e (clause_piece b.globals) cs at y less is (g x)
    (subst (λ z. Goes x c e (sequence (map (clause_piece z) (drop (at + 1) cs)))) (g x).globals last))

pub clauses_end : (a b : Builder) (cs : List Clause) (at : ℕ) → length cs ≤ at → ReachesClauses a b cs (drop at cs)
    → (x : loops.Loop) → Goes x a b (sequence (map (clause_piece a.globals) cs))
clauses_end a b cs at all h x = h x b (turns_end x b (clause_piece b.globals) cs at all)

-- ---- statements by their forms

module _ (x : loops.Loop) (space : IterationSpace) (a : Builder) where
  -- a piece that is that of a statement
  pub as_stmt : (b : Builder) (y z : BodyStmt) (p : Piece) → y ≡ z → stmt_piece a.globals space z ≡ p → Goes x a b p → Goes x a b (stmt_piece a.globals space y)
  as_stmt b y z p is same g = subst (Goes x a b) (sym (ap (stmt_piece a.globals space) is ∙ same)) g

-- ---- clauses

-- the cell of a clause
pub live_goes : (b c : Builder) (array : ℕ) (line : Line) (p : Piece) → p ≡ alone (LivesOut array line) → c ≡ with_step b steps.LiveOut → (x : loops.Loop) → Goes x b c p
live_goes b c array line p is e x =
    let none : with_step (with_reads b 0) steps.LiveOut ≡ c = (λ i. record b { steps = append_nothing b.steps i ++ steps.LiveOut ∷ [] }) ∙ sym e in
    subst (Goes x b c) (sym is)
    (subst (λ z. Goes x b z (alone (LivesOut array line))) none
    (goes_served x b nothing 0 (λ context n. LivesOut array line) steps.LiveOut (reads_none b.globals x) (λ context head s. tt)))

-- ---- tests

module _ (x : loops.Loop) (space : IterationSpace) (a t c : Builder) (y : BodyStmt) (test : Expr) (body : List BodyStmt) (other : Option (List BodyStmt)) (is : y ≡ b.If test body other)
    (tests : Goes x a t (served (reads_of a.globals space test) (test_deed test))) (first : GoesInside x t c (body_piece t.globals space body)) where
  first_here : GoesInside x t c (body_piece a.globals space body)
  first_here = subst (λ z. GoesInside x t c (body_piece z space body)) tests.globals first

  same_piece : (o : Option (List BodyStmt)) → other ≡ o → stmt_piece a.globals space y ≡ branching (reads_of a.globals space test) (test_deed test) (body_piece a.globals space body) (else_piece a.globals space o)
  same_piece o chosen = ap (stmt_piece a.globals space) is ∙ forms.stmt-If a.globals space test body other ∙ ap (λ z. branching (reads_of a.globals space test) (test_deed test) (body_piece a.globals space body) (else_piece a.globals space z)) chosen

  pub if_else : (d : Builder) (others : List BodyStmt) → other ≡ Some others → GoesInside x c d (body_piece c.globals space others) → Goes x a d (stmt_piece a.globals space y)
  if_else d others chosen second =
      subst (Goes x a d) (sym (same_piece (Some others) chosen))
      (goes_branching x a t d (reads_of a.globals space test) (test_deed test) (body_piece a.globals space body) (body_piece a.globals space others) tests
      (record {
        between = c;
        first_goes = first_here;
        second_goes = subst (λ z. GoesInside x c d (body_piece z space others)) (first.globals ∙ tests.globals) second;
      }))

  pub if_alone : other ≡ None → Goes x a c (stmt_piece a.globals space y)
  if_alone chosen =
      subst (Goes x a c) (sym (same_piece None chosen))
      (goes_branching x a t c (reads_of a.globals space test) (test_deed test) (body_piece a.globals space body) nothing tests
      (record { between = c; first_goes = first_here; second_goes = goes_nothing x c }))
