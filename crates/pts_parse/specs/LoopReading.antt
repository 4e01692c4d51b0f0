-- Reading loops.
use Rattle.std.specs.Prelude.{ℕ, zero, suc, Bool, true, false, if◌then◌else◌, List, Option, Some, None, Ok}
use Rattle.pts_types.specs.declared.value.Kind.{Kind}
use Rattle.pts_types.specs.declared.operation.Policy.{Policy}
use Rattle.pts_types.specs.declared.operation.ScalarOp.{ScalarOp}
use Rattle.pts_types.specs.declared.operation.ScalarOp.TheVariants as ops
use Rattle.pts_tree.specs.declared.mark.Mark as mark
use Rattle.pts_tree.specs.declared.mark.Mark.TheVariants as m
use Rattle.pts_tree.specs.declared.sign.SignKind.{SignKind}
use Rattle.pts_tree.specs.declared.sign.SignKind.TheVariants as k
use Rattle.pts_tree.specs.Grammar.{same}
use Rattle.pts_tree.specs.declared.sum.Atom.{Atom}
use Rattle.pts_tree.specs.declared.sum.Atom.TheVariants as atoms
use Rattle.pts_tree.specs.declared.sum.Sum.{Sum}
use Rattle.pts_tree.specs.declared.sum.Val.{Val}
use Rattle.pts_tree.specs.declared.sum.Val.TheVariants as vals
use Rattle.pts_tree.specs.declared.expr.Expr.{Expr}
use Rattle.pts_tree.specs.declared.expr.Place.{Place}
use Rattle.pts_tree.specs.declared.loops.Loop.{Loop}
use Rattle.pts_tree.specs.declared.loops.Clause.{Clause}
use Rattle.pts_tree.specs.declared.loops.Clause.TheVariants as clauses
use Rattle.pts_tree.specs.declared.loops.Initial.{Initial}
use Rattle.pts_tree.specs.declared.loops.Initial.TheVariants as initials
use Rattle.pts_tree.specs.declared.loops.BodyStmt.{BodyStmt}
use Rattle.pts_tree.specs.declared.loops.BodyStmt.TheVariants as b
use Rattle.pts_parse.specs.Reading.{Parser, ◌>>=◌, ahead, past, unexpected, expect, open_bracket, name, number, each_of}
use Rattle.pts_parse.specs.SumReading.{atom, sum_behind, sum, val, index, cell, typed}
use Rattle.pts_parse.specs.CallReading.{policy, op}
use Rattle.pts_parse.specs.ExprReading.{expr, inner, enclosed}

-- ---- clauses

-- optional("step" sum)
unfoldable pub step : Parser (Option Sum)
step ts = if same (k.Mark m.Step) (ahead ts) then (sum (past ts) >>= λ x. Ok (Some x.0, x.1)) else Ok (None, ts)

-- optional("identity" val)
unfoldable pub identity : Parser (Option Val)
identity ts = if same (k.Mark m.Identity) (ahead ts) then (val (past ts) >>= λ x. Ok (Some x.0, x.1)) else Ok (None, ts)

-- "as" NAME
unfoldable pub view : Parser (List ℕ)
view ts = expect m.As ts >>= λ r. name r

-- cell op optional("identity" val) "as" NAME
unfoldable pub reduce_clause : ℕ → Parser Clause
reduce_clause room ts =
    cell room ts >>= λ c. op c.1 >>= λ o. identity o.1 >>= λ i. view i.1 >>= λ v.
    Ok (clauses.Reduce (record { cell = c.0; op = o.0; identity = i.0; view = v.0 }), v.1)

-- a sum of which the first atom is known
unfoldable pub initial_sum : Bool → Atom → Parser Initial
initial_sum negative first ts = sum_behind negative first ts >>= λ x. Ok (initials.Val (vals.Sum x.0), x.1)

-- a cell, or a sum that begins with a name, behind that name
unfoldable pub initial_behind : ℕ → List ℕ → Parser Initial
initial_behind room text ts =
    if same (k.Mark m.OpenBracket) (ahead ts) then (index room ts >>= λ x. Ok (initials.Cell (record { array = text; index = x.0 }), x.1))
    else initial_sum false (atoms.Name text) ts

-- val | cell
abbrev pub initial_by : SignKind → ℕ → Parser Initial
initial_by k.Name room ts = name ts >>= λ n. initial_behind room n.0 n.1
initial_by k.Number room ts = number ts >>= λ n. initial_sum false (atoms.Number n.0) n.1
initial_by k.One room ts = number ts >>= λ n. initial_sum false (atoms.Number n.0) n.1
initial_by (k.Mark m.MinusSign) room ts = atom (past ts) >>= λ x. initial_sum true x.0 x.1
initial_by (k.Mark m.True) room ts = Ok (initials.Val vals.True, past ts)
initial_by (k.Mark m.False) room ts = Ok (initials.Val vals.False, past ts)
initial_by _ room ts = unexpected ts

unfoldable pub initial : ℕ → Parser Initial
initial room ts = initial_by (ahead ts) room ts

-- NAME ":" kind "="
unfoldable pub induct_head : Parser (List ℕ × Kind)
induct_head ts = typed ts >>= λ h. expect m.Equal h.1 >>= λ r. Ok (h.0, r)

-- NAME ":" kind "=" (val | cell) optional("step" sum)
unfoldable pub induct_clause : ℕ → Parser Clause
induct_clause room ts =
    induct_head ts >>= λ h. initial room h.1 >>= λ i. step i.1 >>= λ d.
    Ok (clauses.Induct (record { name = h.0.0; kind = h.0.1; initial = i.0; step = d.0 }), d.1)

abbrev pub clause_by : SignKind → ℕ → Parser Clause
clause_by (k.Mark m.Reduce) room ts = reduce_clause room (past ts)
clause_by (k.Mark m.Induct) room ts = induct_clause room (past ts)
clause_by _ room ts = unexpected ts

unfoldable pub clause : ℕ → Parser Clause
clause room ts = clause_by (ahead ts) room ts

-- another clause follows
unfoldable pub sees_clause : SignKind → Bool
sees_clause (k.Mark m.Reduce) = true
sees_clause (k.Mark m.Induct) = true
sees_clause _ = false

unfoldable pub clauses_of : ℕ → Parser (List Clause)
clauses_of room ts = each_of sees_clause (clause room) ts

-- ---- statements of a body; `stmts` reads those inside of one more brace

-- "[" expr "]"
unfoldable pub bracketed : ℕ → Parser Expr
bracketed room ts = enclosed m.OpenBracket m.CloseBracket room (inner room) ts

-- NAME "[" expr "]"
unfoldable pub place : ℕ → Parser Place
place room ts = name ts >>= λ n. bracketed room n.1 >>= λ x. Ok (record { array = n.0; index = x.0 }, x.1)

-- an expression between a sign and ";"
unfoldable pub value : mark.Mark → ℕ → Parser Expr
value sign room ts = expect sign ts >>= λ r. expr room r >>= λ x. expect m.Semicolon x.1 >>= λ s. Ok (x.0, s)

-- "[" expr "]" "=" expr ";" behind the array's name
unfoldable pub assign : ℕ → List ℕ → Parser BodyStmt
assign room text ts = bracketed room ts >>= λ i. value m.Equal room i.1 >>= λ x. Ok (b.Assign (record { array = text; index = i.0 }) x.0, x.1)

-- "~=" expr ";" behind the view's name
unfoldable pub combine : ℕ → List ℕ → Parser BodyStmt
combine room text ts = value m.TildeEqual room ts >>= λ x. Ok (b.Combine text x.0, x.1)

abbrev pub name_stmt_by : SignKind → ℕ → List ℕ → Parser BodyStmt
name_stmt_by (k.Mark m.OpenBracket) room text ts = assign room text ts
name_stmt_by (k.Mark m.TildeEqual) room text ts = combine room text ts
name_stmt_by _ room text ts = unexpected ts

unfoldable pub name_stmt : ℕ → List ℕ → Parser BodyStmt
name_stmt room text ts = name_stmt_by (ahead ts) room text ts

-- NAME "=" expr ";" behind "let"
unfoldable pub let_name : ℕ → Parser BodyStmt
let_name room ts = name ts >>= λ n. value m.Equal room n.1 >>= λ x. Ok (b.Let n.0 x.0, x.1)

-- "{" and statements and "}"
unfoldable pub braced : ℕ → Parser (List BodyStmt) → Parser (List BodyStmt)
braced room stmts ts = open_bracket room m.OpenBrace ts >>= λ r. stmts r >>= λ xs. expect m.CloseBrace xs.1 >>= λ s. Ok (xs.0, s)

-- optional("else" "{" bstmt* "}")
unfoldable pub else_part : ℕ → Parser (List BodyStmt) → Parser (Option (List BodyStmt))
else_part room stmts ts = if same (k.Mark m.Else) (ahead ts) then (braced room stmts (past ts) >>= λ xs. Ok (Some xs.0, xs.1)) else Ok (None, ts)

-- expr "{" bstmt* "}" optional("else" "{" bstmt* "}") behind "if"
unfoldable pub if_stmt : ℕ → Parser (List BodyStmt) → Parser BodyStmt
if_stmt room stmts ts = expr room ts >>= λ x. braced room stmts x.1 >>= λ xs. else_part room stmts xs.1 >>= λ ys. Ok (b.If x.0 xs.0 ys.0, ys.1)

-- "{" bstmt* "}" behind "vec_off"
unfoldable pub vec_off : ℕ → Parser (List BodyStmt) → Parser BodyStmt
vec_off room stmts ts = braced room stmts ts >>= λ xs. Ok (b.VecOff xs.0, xs.1)

-- "+=" | "-=" | "*=" | "&=" | "|=" | "^="
abbrev pub upd_by : SignKind → Parser ScalarOp
upd_by (k.Mark m.PlusEqual) ts = Ok (ops.Plus, past ts)
upd_by (k.Mark m.MinusEqual) ts = Ok (ops.Minus, past ts)
upd_by (k.Mark m.StarEqual) ts = Ok (ops.Multiplies, past ts)
upd_by (k.Mark m.AmpersandEqual) ts = Ok (ops.BitAnd, past ts)
upd_by (k.Mark m.BarEqual) ts = Ok (ops.BitOr, past ts)
upd_by (k.Mark m.CaretEqual) ts = Ok (ops.BitXor, past ts)
upd_by _ ts = unexpected ts

unfoldable pub upd : Parser ScalarOp
upd ts = upd_by (ahead ts) ts

-- NAME "[" expr "]" upd expr ";" behind "ordered"
unfoldable pub ordered : ℕ → Parser BodyStmt
ordered room ts = place room ts >>= λ at. upd at.1 >>= λ o. expr room o.1 >>= λ x. expect m.Semicolon x.1 >>= λ r. Ok (b.Ordered at.0 o.0 x.0, r)

abbrev pub bstmt_by : SignKind → ℕ → Parser (List BodyStmt) → Parser BodyStmt
bstmt_by k.Name room stmts ts = name ts >>= λ n. name_stmt room n.0 n.1
bstmt_by (k.Mark m.Let) room stmts ts = let_name room (past ts)
bstmt_by (k.Mark m.If) room stmts ts = if_stmt room stmts (past ts)
bstmt_by (k.Mark m.VecOff) room stmts ts = vec_off room stmts (past ts)
bstmt_by (k.Mark m.Ordered) room stmts ts = ordered room (past ts)
bstmt_by _ room stmts ts = unexpected ts

unfoldable pub bstmt_of : ℕ → Parser (List BodyStmt) → Parser BodyStmt
bstmt_of room stmts ts = bstmt_by (ahead ts) room stmts ts

-- another statement of the body follows
unfoldable pub sees_bstmt : SignKind → Bool
sees_bstmt k.Name = true
sees_bstmt (k.Mark m.Let) = true
sees_bstmt (k.Mark m.If) = true
sees_bstmt (k.Mark m.VecOff) = true
sees_bstmt (k.Mark m.Ordered) = true
sees_bstmt _ = false

-- bstmt*
unfoldable pub bstmts : ℕ → Parser (List BodyStmt)
bstmts zero ts = each_of sees_bstmt (bstmt_of zero unexpected) ts
bstmts (suc room) ts = each_of sees_bstmt (bstmt_of (suc room) (bstmts room)) ts

-- the statements inside of one more brace; without room for one they are never read
unfoldable pub inner_bstmts : ℕ → Parser (List BodyStmt)
inner_bstmts zero ts = unexpected ts
inner_bstmts (suc room) ts = bstmts room ts

-- "{" bstmt* "}"
unfoldable pub body : ℕ → Parser (List BodyStmt)
body room ts = braced room (inner_bstmts room) ts

-- ---- loops

-- policy NAME "="
unfoldable pub loop_head : Parser (Policy × List ℕ)
loop_head ts = policy ts >>= λ p. name p.1 >>= λ i. expect m.Equal i.1 >>= λ r. Ok ((p.0, i.0), r)

-- sum "to" sum optional("step" sum)
unfoldable pub bounds : Parser ((Sum × Sum) × Option Sum)
bounds ts = sum ts >>= λ low. expect m.To low.1 >>= λ r. sum r >>= λ high. step high.1 >>= λ d. Ok (((low.0, high.0), d.0), d.1)

-- policy NAME "=" sum "to" sum optional("step" sum) clause* "{" bstmt* "}" behind "for_loop"
unfoldable pub loop_behind : ℕ → Parser Loop
loop_behind room ts =
    loop_head ts >>= λ h. bounds h.1 >>= λ x. clauses_of room x.1 >>= λ cs. body room cs.1 >>= λ xs.
    Ok (record { policy = h.0.0; index = h.0.1; low = x.0.0.0; high = x.0.0.1; step = x.0.1; clauses = cs.0; body = xs.0 }, xs.1)
