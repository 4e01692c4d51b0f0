-- The points and calls of an item, in text order.
use Rattle.std.specs.Prelude.{ℕ, ◌+◌, true, unwrap_or, Option, Some, None, List, [], ◌∷◌, ◌++◌, map}
use Rattle.pts_types.specs.declared.value.Kind.{Kind}
use Rattle.pts_types.specs.declared.value.Kind.TheVariants as kinds
use Rattle.pts_types.specs.declared.operation.Policy.{Policy}
use Rattle.pts_types.specs.declared.operation.ScalarOp.{ScalarOp}
use Rattle.pts_affine.specs.declared.line.Line.{Line}
use Rattle.pts_tree.specs.declared.sum.Range.{Range}
use Rattle.pts_tree.specs.declared.sum.Cell.{Cell}
use Rattle.pts_tree.specs.declared.call.Call as call
use Rattle.pts_tree.specs.declared.call.CallForm.{CallForm}
use Rattle.pts_tree.specs.declared.call.CallForm.TheVariants as forms
use Rattle.pts_tree.specs.declared.expr.Expr.{Expr}
use Rattle.pts_tree.specs.declared.expr.Expr.TheOpen.{Expr-F}
use Rattle.pts_tree.specs.declared.expr.Expr.TheFolds.{para-Expr}
use Rattle.pts_tree.specs.declared.expr.ChainPart.{ChainPart}
use Rattle.pts_tree.specs.declared.expr.Place.{Place}
use Rattle.pts_tree.specs.declared.loops.Loop as loops
use Rattle.pts_tree.specs.declared.loops.Clause.{Clause}
use Rattle.pts_tree.specs.declared.loops.Clause.TheVariants as clauses
use Rattle.pts_tree.specs.declared.loops.Initial.{Initial}
use Rattle.pts_tree.specs.declared.loops.Initial.TheVariants as initials
use Rattle.pts_tree.specs.declared.loops.BodyStmt.{BodyStmt}
use Rattle.pts_tree.specs.declared.loops.BodyStmt.TheOpen.{BodyStmt-F}
use Rattle.pts_tree.specs.declared.loops.BodyStmt.TheFolds.{fold-BodyStmt}
use Rattle.pts_tree.specs.declared.script.Item.{Item}
use Rattle.pts_rules.specs.Parts.{Name, Simple, Throw, Assign, Call, Loop, statements}
use Rattle.pts_rules.specs.Known.{Scope, kind_of_array, view_of}
use Rattle.pts_rules.specs.Kinds.{let_kind, typing}
use Rattle.pts_rules.specs.Mistyped.{body_scope}
use Rattle.pts_rules.specs.Indices.{affine_of, line_of}
use Rattle.pts_points.specs.declared.point.PointForm.{PointForm}
use Rattle.pts_points.specs.declared.point.PointForm.TheVariants.{Read, Write, Update, LiveOut, Into, Plain}
use Rattle.pts_points.specs.declared.point.PointInfo.{PointInfo}
use Rattle.pts_points.specs.declared.point.CallInfo.{CallInfo}
use Rattle.pts_points.specs.declared.space.IterationSpace.{IterationSpace}
use Rattle.pts_points.specs.Lines as lines
use Rattle.pts_points.specs.Lines.{no_line, line_of_range, line_of_cell, space_of, no_loop}
use Rattle.pts_points.specs.Pieces.{Context, Computation, Index, Along, Computed, Deed, Reads, Assigns, Updates, Notes, Tests, Gives, Fills, LivesOut, Answers, Point, Piece, names_in, nothing, behind, sequence, sequence_of, served, alone, served_off, off_vector, binding, branching}

abbrev pub array_at : Scope → Name → ℕ
array_at = lines.array_at

-- ---- expressions

-- the kind of an array's elements; of what is no array only a broken rule is asked
abbrev pub kind_at : Scope → Name → Kind
kind_at scope name = unwrap_or (kind_of_array scope name) kinds.U64

abbrev pub view_kind : Name → Context → Kind
view_kind name context = unwrap_or (view_of (names_in context) name) kinds.U64

-- an index that is computed has its expression's own kind, or `i64` where that is bare
abbrev pub index_kind : Context → Expr → Kind
index_kind context x = unwrap_or (typing true (names_in context) x).own kinds.I64

-- the cells of an index, whose Reads have the numbers from n on where it is computed
abbrev pub index_of : Scope → IterationSpace → Expr → Context → ℕ → Index
index_of scope space x context n =
    elim (affine_of scope space.index x) [
      | None ↦ Computed (record { kind = index_kind context x; first = n; expr = x })
      | Some affine ↦ Along (line_of space.first space.step space.positions affine)
    ]

-- the Reads of an expression in text order, those of an index before the Read that it is the index of
abbrev pub reads_step : Scope → IterationSpace → Expr-F (Expr × Piece) (ChainPart × Piece) → Piece
reads_step scope space (Expr-F.Call name xs) = sequence (map (λ x. x.1) xs)
reads_step scope space (Expr-F.Element name x) = served x.1 (λ context n. Reads (array_at scope name) (index_of scope space x.0 context n))
reads_step scope space (Expr-F.Convert to x) = x.1
reads_step scope space (Expr-F.Paren x) = x.1
reads_step scope space (Expr-F.Minus x) = x.1
reads_step scope space (Expr-F.Not x) = x.1
reads_step scope space (Expr-F.Chain x xs) = behind x.1 (sequence (map (λ y. y.1) xs))
reads_step scope space (Expr-F.Compare op x y) = behind x.1 y.1
reads_step scope space (Expr-F.All xs) = sequence (map (λ x. x.1) xs)
reads_step scope space (Expr-F.Any xs) = sequence (map (λ x. x.1) xs)
reads_step scope space (Expr-F.If x y z) = behind x.1 (behind y.1 z.1)
reads_step scope space _ = nothing

-- the Reads of an expression
unfoldable pub reads_of : Scope → IterationSpace → Expr → Piece
reads_of scope space = para-Expr Piece Piece (reads_step scope space) (λ part. part.operand.1)

-- ---- statements of a body

-- the Reads of a place that is written and of the value for it
abbrev pub both_reads : Scope → IterationSpace → Place → Expr → Piece
both_reads scope space at x = behind (reads_of scope space at.index) (reads_of scope space x)

-- the value for a place, whose Reads stand behind those of the place
abbrev pub value_for : Scope → IterationSpace → Place → Expr → ℕ → Computation
value_for scope space at x n = record { kind = kind_at scope at.array; first = n + (reads_of scope space at.index).size; expr = x }

abbrev pub assign_deed : Scope → IterationSpace → Place → Expr → Context → ℕ → Deed
assign_deed scope space at x context n =
    Assigns (array_at scope at.array) (index_of scope space at.index context n) (value_for scope space at x n)

abbrev pub update_deed : Scope → IterationSpace → Place → ScalarOp → Expr → Context → ℕ → Deed
update_deed scope space at op x context n =
    Updates (array_at scope at.array) (index_of scope space at.index context n) op (value_for scope space at x n)

-- the kind of a `let`
abbrev pub kind_of_let : Expr → Context → Kind
kind_of_let x context = let_kind (names_in context) x

abbrev pub stmt_step : Scope → IterationSpace → BodyStmt-F Piece → Piece
stmt_step scope space (BodyStmt-F.Assign at x) = served (both_reads scope space at x) (assign_deed scope space at x)
stmt_step scope space (BodyStmt-F.Let name x) =
    binding name (kind_of_let x) (reads_of scope space x) (λ context n. Notes (record { kind = kind_of_let x context; first = n; expr = x }))
stmt_step scope space (BodyStmt-F.Combine name x) =
    served (reads_of scope space x) (λ context n. Gives name (record { kind = view_kind name context; first = n; expr = x }))
stmt_step scope space (BodyStmt-F.If x xs ys) =
    branching (reads_of scope space x) (λ context n. Tests (record { kind = kinds.Bool; first = n; expr = x })) (sequence xs) (sequence_of ys)
stmt_step scope space (BodyStmt-F.VecOff xs) = off_vector (sequence xs)
stmt_step scope space (BodyStmt-F.Ordered at op x) = served_off (both_reads scope space at x) (update_deed scope space at op x)

-- a statement of a body
unfoldable pub stmt_piece : Scope → IterationSpace → BodyStmt → Piece
stmt_piece scope space = fold-BodyStmt Piece (stmt_step scope space)

abbrev pub body_piece : Scope → IterationSpace → List BodyStmt → Piece
body_piece scope space xs = sequence (map (stmt_piece scope space) xs)

-- ---- loops and calls

-- the cell of a clause
abbrev pub live_out : Scope → Cell → Piece
live_out scope x = alone (LivesOut (array_at scope x.array) (line_of_cell scope x))

abbrev pub initial_piece : Scope → Initial → Piece
initial_piece scope (initials.Val x) = nothing
initial_piece scope (initials.Cell x) = live_out scope x

abbrev pub clause_piece : Scope → Clause → Piece
clause_piece scope (clauses.Reduce x) = live_out scope x.cell
clause_piece scope (clauses.Induct x) = initial_piece scope x.initial

-- the cells of the clauses, and the body
abbrev pub loop_piece : Scope → loops.Loop → Piece
loop_piece scope x = behind (sequence (map (clause_piece scope) x.clauses)) (body_piece scope (space_of scope x) x.body)

abbrev pub source_piece : Scope → Range → Piece
source_piece scope x = alone (Reads (array_at scope x.array) (Along (line_of_range scope x)))

abbrev pub target_piece : Scope → Range → Piece
target_piece scope x = alone (Fills (array_at scope x.array) (line_of_range scope x))

abbrev pub answer_piece : Scope → Cell → Piece
answer_piece scope x = alone (Answers (array_at scope x.array) (line_of_cell scope x))

-- where there is a part
abbrev pub piece_of : {A : Type 0} → (A → Piece) → Option A → Piece
piece_of f None = nothing
piece_of f (Some x) = f x

-- `for_each` writes the range that it reads
abbrev pub own_piece : Scope → CallForm → Range → Piece
own_piece scope forms.ForEach x = target_piece scope x
own_piece scope form x = nothing

-- the sources, the target, and the cell of the answer
abbrev pub call_piece : Scope → call.Call → Piece
call_piece scope x =
    behind (behind (source_piece scope x.first) (piece_of (source_piece scope) x.second))
    (behind (own_piece scope x.form x.first) (behind (piece_of (target_piece scope) x.target) (piece_of (answer_piece scope) x.store)))

-- ---- items

-- a cell of a block that a value is assigned to
abbrev pub assign_piece : Scope → Cell → Expr → Piece
assign_piece scope at x =
    served (reads_of scope no_loop x)
    (λ context n. Assigns (array_at scope at.array) (Along (line_of_cell scope at)) (record { kind = kind_at scope at.array; first = n; expr = x }))

abbrev pub statement_piece : Scope → Simple → Piece
statement_piece scope (Throw n) = nothing
statement_piece scope (Assign at x) = assign_piece scope at x
statement_piece scope (Call x) = call_piece scope x
statement_piece scope (Loop x) = loop_piece scope x

-- a place in no branch, of this call or of none
abbrev pub outside : Option ℕ → Scope → Context
outside call head = record { call = call; branches = []; off = None; head = head; lets = [] }

-- where a statement stands, with this number where it is a call
abbrev pub context_of : Scope → ℕ → Simple → Context
context_of scope c (Throw n) = outside None scope
context_of scope c (Assign at x) = outside None scope
context_of scope c (Call x) = outside (Some c) scope
context_of scope c (Loop x) = outside (Some c) (body_scope scope x)

abbrev pub calls_in : Simple → ℕ
calls_in (Throw n) = 0
calls_in (Assign at x) = 0
calls_in (Call x) = 1
calls_in (Loop x) = 1

-- the points of statements that stand behind n points, m numbers of `off` and c calls
abbrev pub points_from : Scope → ℕ → ℕ → ℕ → List Simple → List Point
points_from scope n m c [] = []
points_from scope n m c (x ∷ xs) =
    (statement_piece scope x).points (context_of scope c x) n m
    ++ points_from scope (n + (statement_piece scope x).size) (m + (statement_piece scope x).offs) (c + calls_in x) xs

-- the points of an item before which this many calls stand
abbrev pub item_points : Scope → ℕ → Item → List Point
item_points scope earlier x = points_from scope 0 0 earlier (statements x)

-- a call of so many positions, behind n points of the item
abbrev pub call_info : ℕ → Policy → ℕ → ℕ → ℕ → List CallInfo
call_info item policy positions n size =
    record { item = item; policy = policy; positions = positions; first_point = n; points = size } ∷ []

abbrev pub call_at : Scope → ℕ → ℕ → Simple → List CallInfo
call_at scope item n (Throw code) = []
call_at scope item n (Assign at x) = []
call_at scope item n (Call x) = call_info item x.policy (line_of_range scope x.first).n n (call_piece scope x).size
call_at scope item n (Loop x) = call_info item x.policy (space_of scope x).positions n (loop_piece scope x).size

-- the calls and loops among statements that stand behind n points
abbrev pub calls_from : Scope → ℕ → ℕ → List Simple → List CallInfo
calls_from scope item n [] = []
calls_from scope item n (x ∷ xs) = call_at scope item n x ++ calls_from scope item (n + (statement_piece scope x).size) xs

-- ---- what lists show

abbrev pub form_of : Deed → PointForm
form_of (Reads array index) = Read
form_of (Assigns array index x) = Write
form_of (Updates array index op x) = Update
form_of (Notes x) = Plain
form_of (Tests x) = Plain
form_of (Gives view x) = Plain
form_of (Fills array line) = Write
form_of (LivesOut array line) = LiveOut
form_of (Answers array line) = Into

abbrev pub array_of : Deed → ℕ
array_of (Reads array index) = array
array_of (Assigns array index x) = array
array_of (Updates array index op x) = array
array_of (Fills array line) = array
array_of (LivesOut array line) = array
array_of (Answers array line) = array
array_of _ = 0

-- an index that is no line is shown without cells
abbrev pub line_at : Index → Line
line_at (Along line) = line
line_at (Computed x) = no_line

abbrev pub line_of_deed : Deed → Line
line_of_deed (Reads array index) = line_at index
line_of_deed (Assigns array index x) = line_at index
line_of_deed (Updates array index op x) = line_at index
line_of_deed (Fills array line) = line
line_of_deed (LivesOut array line) = line
line_of_deed (Answers array line) = line
line_of_deed _ = no_line

-- a point of an item of this number
abbrev pub info : ℕ → Point → PointInfo
info item x =
    record {
      item = item;
      number = x.number;
      call = x.context.call;
      form = form_of x.deed;
      array = array_of x.deed;
      line = line_of_deed x.deed;
      branches = x.context.branches;
      off = x.context.off;
    }

-- the points of an item of this number, before which this many calls stand
abbrev pub points_of : Scope → ℕ → ℕ → Item → List PointInfo
points_of scope item earlier x = map (info item) (item_points scope earlier x)

-- the calls and loops of an item
abbrev pub calls_of : Scope → ℕ → ℕ → Item → List CallInfo
calls_of scope item earlier x = calls_from scope item 0 (statements x)
