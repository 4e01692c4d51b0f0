-- Which signs spell a statement of a loop or of a task block, and which statements the grammar has.
use Rattle.std.specs.Prelude.{ℕ, Bool, true, false, ◌&&◌, is_some, Option, Some, None, List, ◌∷◌}
use Rattle.std.specs.List.{list_all}
use Rattle.pts_types.specs.declared.operation.ScalarOp.{ScalarOp}
use Rattle.pts_types.specs.declared.operation.ScalarOp.TheVariants as ops
use Rattle.pts_tree.specs.declared.mark.Mark as mark
use Rattle.pts_tree.specs.declared.mark.Mark.TheVariants as m
use Rattle.pts_tree.specs.declared.sum.Sum.{Sum}
use Rattle.pts_tree.specs.declared.sum.Val.{Val}
use Rattle.pts_tree.specs.declared.sum.Cell.{Cell}
use Rattle.pts_tree.specs.declared.expr.Expr.{Expr}
use Rattle.pts_tree.specs.declared.expr.Place.{Place}
use Rattle.pts_tree.specs.declared.loops.Loop.{Loop}
use Rattle.pts_tree.specs.declared.loops.Clause.{Clause}
use Rattle.pts_tree.specs.declared.loops.Clause.TheVariants as clauses
use Rattle.pts_tree.specs.declared.loops.ReduceClause.{ReduceClause}
use Rattle.pts_tree.specs.declared.loops.InductClause.{InductClause}
use Rattle.pts_tree.specs.declared.loops.Initial.{Initial}
use Rattle.pts_tree.specs.declared.loops.Initial.TheVariants as initials
use Rattle.pts_tree.specs.declared.loops.BodyStmt.{BodyStmt}
use Rattle.pts_tree.specs.declared.loops.BodyStmt.TheOpen.{BodyStmt-F}
use Rattle.pts_tree.specs.declared.loops.BodyStmt.TheFolds.{fold-BodyStmt}
use Rattle.pts_tree.specs.declared.block.TaskStmt.{TaskStmt}
use Rattle.pts_tree.specs.declared.block.TaskStmt.TheOpen.{TaskStmt-F, Block-F}
use Rattle.pts_tree.specs.declared.block.TaskStmt.TheFolds.{fold-TaskStmt, fold-Block}
use Rattle.pts_tree.specs.declared.block.Block.{Block}
use Rattle.pts_tree.specs.Signs.{Mark, Name}
use Rattle.pts_tree.specs.Spelling.{Text, each, optional, word, kind, policy, sum, val, cell, op, op_allowed, call, call_allowed, if_there}
use Rattle.pts_tree.specs.Expressions.{expr, expr_allowed, throw}

-- what spells a statement, and whether the grammar has it
pub record Phrase : Type 0 where
  pub text : Text
  pub allowed : Bool

-- what spells a statement
abbrev pub phrase_text : Phrase → Text
phrase_text x = x.text

-- whether the grammar has a statement
abbrev pub phrase_allowed : Phrase → Bool
phrase_allowed x = x.allowed

-- statements between braces
abbrev pub braced : List Phrase → Text
braced xs tail = Mark m.OpenBrace ∷ each phrase_text xs (Mark m.CloseBrace ∷ tail)

-- ---- statements of a loop's body

-- NAME "[" expr "]"
abbrev pub place : Place → Text
place x tail = Name x.array ∷ Mark m.OpenBracket ∷ expr x.index (Mark m.CloseBracket ∷ tail)

-- "+=" | "-=" | "*=" | "&=" | "|=" | "^="
abbrev pub upd_mark : ScalarOp → Option mark.Mark
upd_mark ops.Plus = Some m.PlusEqual
upd_mark ops.Minus = Some m.MinusEqual
upd_mark ops.Multiplies = Some m.StarEqual
upd_mark ops.BitAnd = Some m.AmpersandEqual
upd_mark ops.BitOr = Some m.BarEqual
upd_mark ops.BitXor = Some m.CaretEqual
upd_mark _ = None

-- a value that is given to what stands before the sign
abbrev pub value : mark.Mark → Expr → Text
value sign x tail = Mark sign ∷ expr x (Mark m.Semicolon ∷ tail)

-- NAME "[" expr "]" "=" expr ";"
abbrev pub assign : Place → Expr → Text
assign at x tail = place at (value m.Equal x tail)

-- "let" NAME "=" expr ";"
abbrev pub let_name : List ℕ → Expr → Text
let_name text x tail = Mark m.Let ∷ Name text ∷ value m.Equal x tail

-- NAME "~=" expr ";"
abbrev pub combine : List ℕ → Expr → Text
combine text x tail = Name text ∷ value m.TildeEqual x tail

-- "ordered" NAME "[" expr "]" upd expr ";"
abbrev pub ordered : Place → ScalarOp → Expr → Text
ordered at o x tail = Mark m.Ordered ∷ place at (optional word (upd_mark o) (expr x (Mark m.Semicolon ∷ tail)))

-- "else" "{" bstmt* "}"
abbrev pub else_part : List Phrase → Text
else_part xs tail = Mark m.Else ∷ braced xs tail

-- one case for each alternative of bstmt
abbrev pub phrase_step : BodyStmt-F Phrase → Phrase
phrase_step (BodyStmt-F.Assign at x) = record { text = assign at x; allowed = expr_allowed at.index && expr_allowed x }
phrase_step (BodyStmt-F.Let text x) = record { text = let_name text x; allowed = expr_allowed x }
phrase_step (BodyStmt-F.Combine text x) = record { text = combine text x; allowed = expr_allowed x }
phrase_step (BodyStmt-F.If x xs ys) = record { text = λ tail. Mark m.If ∷ expr x (braced xs (optional else_part ys tail)); allowed = expr_allowed x && list_all phrase_allowed xs && if_there (list_all phrase_allowed) ys }
phrase_step (BodyStmt-F.VecOff xs) = record { text = λ tail. Mark m.VecOff ∷ braced xs tail; allowed = list_all phrase_allowed xs }
phrase_step (BodyStmt-F.Ordered at o x) = record { text = ordered at o x; allowed = is_some (upd_mark o) && expr_allowed at.index && expr_allowed x }

-- what spells a statement of a body, and whether the grammar has it
unfoldable pub phrase : BodyStmt → Phrase
phrase = fold-BodyStmt Phrase phrase_step

-- what spells a statement of a body
abbrev pub bstmt : BodyStmt → Text
bstmt x = (phrase x).text

-- whether the grammar has this statement of a body
abbrev pub bstmt_allowed : BodyStmt → Bool
bstmt_allowed x = (phrase x).allowed

-- statements of a body between braces
abbrev pub body : List BodyStmt → Text
body xs tail = Mark m.OpenBrace ∷ each bstmt xs (Mark m.CloseBrace ∷ tail)

-- "else" and the other branch
abbrev pub else_body : List BodyStmt → Text
else_body xs tail = Mark m.Else ∷ body xs tail

-- a test, its branch, and the other one where there is one
abbrev pub if_stmt : Expr → List BodyStmt → Option (List BodyStmt) → Text
if_stmt x xs ys tail = Mark m.If ∷ expr x (body xs (optional else_body ys tail))

-- "vec_off" "{" bstmt* "}"
abbrev pub vec_off : List BodyStmt → Text
vec_off xs tail = Mark m.VecOff ∷ body xs tail

-- ---- loops

-- "step" sum
abbrev pub step_part : Sum → Text
step_part x tail = Mark m.Step ∷ sum x tail

-- "identity" val
abbrev pub identity_part : Val → Text
identity_part x tail = Mark m.Identity ∷ val x tail

-- val | cell
abbrev pub initial : Initial → Text
initial (initials.Val x) tail = val x tail
initial (initials.Cell x) tail = cell x tail

-- "reduce" cell op optional("identity" val) "as" NAME
abbrev pub reduce_clause : ReduceClause → Text
reduce_clause x tail = Mark m.Reduce ∷ cell x.cell (op x.op (optional identity_part x.identity (Mark m.As ∷ Name x.view ∷ tail)))

-- "induct" NAME ":" kind "=" (val | cell) optional("step" sum)
abbrev pub induct_clause : InductClause → Text
induct_clause x tail = Mark m.Induct ∷ Name x.name ∷ Mark m.Colon ∷ Mark (kind x.kind) ∷ Mark m.Equal ∷ initial x.initial (optional step_part x.step tail)

-- a reduction or an induction
abbrev pub clause : Clause → Text
clause (clauses.Reduce x) tail = reduce_clause x tail
clause (clauses.Induct x) tail = induct_clause x tail

-- whether the grammar has this clause
abbrev pub clause_allowed : Clause → Bool
clause_allowed (clauses.Reduce x) = op_allowed x.op
clause_allowed (clauses.Induct x) = true

-- "for_loop" policy NAME "=" sum "to" sum optional("step" sum) clause* "{" bstmt* "}"
abbrev pub loop : Loop → Text
loop x tail =
    Mark m.ForLoop ∷ Mark (policy x.policy) ∷ Name x.index ∷ Mark m.Equal ∷ sum x.low (Mark m.To ∷ sum x.high (optional step_part x.step
    (each clause x.clauses (body x.body tail))))

-- whether the grammar has this loop
abbrev pub loop_allowed : Loop → Bool
loop_allowed x = list_all clause_allowed x.clauses && list_all bstmt_allowed x.body

-- ---- task blocks

-- what spells a statement of a block, whether the grammar has it, and whether it may stand directly in a `run`
pub record Task : Type 0 where
  pub text : Text
  pub allowed : Bool
  pub in_run : Bool

-- what spells a statement of a block
abbrev pub task_text : Task → Text
task_text x = x.text

-- whether the grammar has this statement of a block
abbrev pub task_allowed : Task → Bool
task_allowed x = x.allowed

-- whether the grammar has this statement directly in a `run`
abbrev pub run_allowed : Task → Bool
run_allowed x = x.in_run && x.allowed

-- "{" tstmt* "}"
abbrev pub tasks : List Task → Text
tasks xs tail = Mark m.OpenBrace ∷ each task_text xs (Mark m.CloseBrace ∷ tail)

-- "wait" ";"
abbrev pub wait : Text
wait tail = Mark m.Wait ∷ Mark m.Semicolon ∷ tail

-- "throw" NUMBER ";"
abbrev pub throw_stmt : ℕ → Text
throw_stmt n tail = throw n (Mark m.Semicolon ∷ tail)

-- cell "=" expr ";"
abbrev pub assign_cell : Cell → Expr → Text
assign_cell at x tail = cell at (value m.Equal x tail)

-- one case for each alternative of tstmt
abbrev pub task_step : TaskStmt-F Task Phrase → Task
task_step (TaskStmt-F.Run xs) = record { text = λ tail. Mark m.Run ∷ tasks xs tail; allowed = list_all run_allowed xs; in_run = false }
task_step TaskStmt-F.Wait = record { text = wait; allowed = true; in_run = false }
task_step (TaskStmt-F.Throw n) = record { text = throw_stmt n; allowed = true; in_run = true }
task_step (TaskStmt-F.Assign at x) = record { text = assign_cell at x; allowed = expr_allowed x; in_run = true }
task_step (TaskStmt-F.Call x) = record { text = call x; allowed = call_allowed x; in_run = true }
task_step (TaskStmt-F.Loop x) = record { text = loop x; allowed = loop_allowed x; in_run = true }
task_step (TaskStmt-F.Block x) = record { text = x.text; allowed = x.allowed; in_run = true }

-- "task_block" "{" tstmt* "}"
abbrev pub block_step : Block-F Task Phrase → Phrase
block_step x = record { text = λ tail. Mark m.TaskBlock ∷ tasks x.body tail; allowed = list_all task_allowed x.body }

-- what spells a statement of a block, and where the grammar has it
unfoldable pub task : TaskStmt → Task
task = fold-TaskStmt Task Phrase task_step block_step

-- what spells a block, and whether the grammar has it
unfoldable pub whole_block : Block → Phrase
whole_block = fold-Block Task Phrase task_step block_step

-- what spells a statement of a block
abbrev pub tstmt : TaskStmt → Text
tstmt x = (task x).text

-- what spells a block
abbrev pub block : Block → Text
block x = (whole_block x).text

-- statements of a block or of a `run` between braces
abbrev pub task_body : List TaskStmt → Text
task_body xs tail = Mark m.OpenBrace ∷ each tstmt xs (Mark m.CloseBrace ∷ tail)

-- "run" "{" rstmt* "}"
abbrev pub run : List TaskStmt → Text
run xs tail = Mark m.Run ∷ task_body xs tail

-- "task_block" and the statements of the block
abbrev pub task_block : List TaskStmt → Text
task_block xs tail = Mark m.TaskBlock ∷ task_body xs tail
