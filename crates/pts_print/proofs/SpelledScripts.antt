-- The signs of a part stand in front of those that follow it and do not depend on them: expressions, statements and items.
use Rattle.std.proofs.Common.{ℕ, List, map, Some, None, sym, subst}
use Rattle.pts_tree.specs.declared.mark.Mark.{Mark}
use Rattle.pts_tree.specs.declared.mark.Mark.TheVariants as m
use Rattle.pts_tree.specs.declared.sum.Val.{Val}
use Rattle.pts_tree.specs.declared.sum.Sum.{Sum}
use Rattle.pts_tree.specs.declared.expr.Expr.{Expr, roll-Expr}
use Rattle.pts_tree.specs.declared.expr.Expr.TheOpen.{Expr-F}
use Rattle.pts_tree.specs.declared.expr.Expr.TheVariants as e
use Rattle.pts_tree.specs.declared.expr.Expr.TheFolds.{map-Expr, ind-Expr}
use Rattle.pts_tree.specs.declared.expr.ChainPart.{ChainPart}
use Rattle.pts_tree.specs.declared.expr.Place.{Place}
use Rattle.pts_tree.specs.declared.loops.Loop.{Loop}
use Rattle.pts_tree.specs.declared.loops.Clause.{Clause}
use Rattle.pts_tree.specs.declared.loops.Clause.TheVariants as clauses
use Rattle.pts_tree.specs.declared.loops.ReduceClause.{ReduceClause}
use Rattle.pts_tree.specs.declared.loops.InductClause.{InductClause}
use Rattle.pts_tree.specs.declared.loops.Initial.{Initial}
use Rattle.pts_tree.specs.declared.loops.Initial.TheVariants as initials
use Rattle.pts_tree.specs.declared.loops.BodyStmt.{BodyStmt, roll-BodyStmt}
use Rattle.pts_tree.specs.declared.loops.BodyStmt.TheOpen.{BodyStmt-F}
use Rattle.pts_tree.specs.declared.loops.BodyStmt.TheVariants as b
use Rattle.pts_tree.specs.declared.loops.BodyStmt.TheFolds.{map-BodyStmt, ind-BodyStmt}
use Rattle.pts_tree.specs.declared.block.TaskStmt.{TaskStmt, roll-TaskStmt}
use Rattle.pts_tree.specs.declared.block.TaskStmt.TheOpen.{TaskStmt-F, Block-F}
use Rattle.pts_tree.specs.declared.block.TaskStmt.TheVariants as t
use Rattle.pts_tree.specs.declared.block.TaskStmt.TheFolds.{map-TaskStmt}
use Rattle.pts_tree.specs.declared.block.Block.{Block, roll-Block, out-roll-Block, map-Block, ind-Block}
use Rattle.pts_tree.specs.declared.script.ConstDecl.{ConstDecl}
use Rattle.pts_tree.specs.declared.script.ArrayDecl.{ArrayDecl}
use Rattle.pts_tree.specs.declared.script.FunctionDecl.{FunctionDecl}
use Rattle.pts_tree.specs.declared.script.Param.{Param}
use Rattle.pts_tree.specs.declared.script.Start.{Start}
use Rattle.pts_tree.specs.declared.script.Start.TheVariants as starts
use Rattle.pts_tree.specs.declared.script.Item.{Item}
use Rattle.pts_tree.specs.declared.script.Item.TheVariants as items
use Rattle.pts_tree.specs.Spelling.{word, kind, policy, val}
use Rattle.pts_tree.specs.Expressions.{expr, chain_mark, chain_part, compare_mark, throw}
use Rattle.pts_tree.specs.Statements.{bstmt, body, else_body, upd_mark, place, value, step_part, identity_part, initial, reduce_clause, induct_clause, clause, loop, tstmt, block, task_body, task_block}
use Rattle.pts_tree.specs.Scripts.{const_decl, start, array_decl, param, function_decl, item}
use Rattle.pts_tree.proofs.Shapes as shapes
use Rattle.pts_tree.proofs.Phrases as phrases
use Rattle.pts_tree.proofs.Tasks as tasks
use Rattle.pts_print.proofs.Spelled.{IsFront, ◌▸◌, said, word_front, name_front, number_front, each_front, each_known, separated_front, separated_known, optional_front, sum_front, val_front, cell_front, op_front, call_front}

-- ---- expressions

abbrev ExprFront : Expr → Type 0
ExprFront x = IsFront (expr x)

abbrev PartFront : ChainPart → Type 0
PartFront x = IsFront (expr x.operand)

-- an expression, and a part of a chain, with what is known of it
abbrev Known : Type 0
Known = (x : Expr) × ExprFront x

abbrev KnownPart : Type 0
KnownPart = (x : ChainPart) × PartFront x

throw_front : (n : ℕ) → IsFront (throw n)
throw_front n = word_front m.Throw ▸ number_front n

part_front : (x : ChainPart) → PartFront x → IsFront (chain_part x)
part_front x p = optional_front word word_front (chain_mark x.op) ▸ p

by_variant : (y : Expr-F Known KnownPart) → ExprFront (roll-Expr (map-Expr Known KnownPart Expr ChainPart (λ z. z.0) (λ z. z.0) y))
by_variant (Expr-F.Number n) = subst ExprFront (sym (e.rolls-Number n)) (said (shapes.text-Number n) (number_front n))
by_variant Expr-F.True = subst ExprFront (sym e.rolls-True) (said shapes.text-True (word_front m.True))
by_variant Expr-F.False = subst ExprFront (sym e.rolls-False) (said shapes.text-False (word_front m.False))
by_variant (Expr-F.Name text) = subst ExprFront (sym (e.rolls-Name text)) (said (shapes.text-Name text) (name_front text))
by_variant (Expr-F.Call text ys) =
    let xs = map (λ (z : Known). z.0) ys in
    subst ExprFront (sym (e.rolls-Call text xs)) (said (shapes.text-Call text xs)
    (name_front text ▸ word_front m.OpenParen ▸ separated_known ExprFront m.Comma expr (λ x p. p) ys ▸ word_front m.CloseParen))
by_variant (Expr-F.Element text y) =
    subst ExprFront (sym (e.rolls-Element text y.0)) (said (shapes.text-Element text y.0) (name_front text ▸ word_front m.OpenBracket ▸ y.1 ▸ word_front m.CloseBracket))
by_variant (Expr-F.Convert to y) =
    subst ExprFront (sym (e.rolls-Convert to y.0)) (said (shapes.text-Convert to y.0) (word_front (kind to) ▸ word_front m.OpenParen ▸ y.1 ▸ word_front m.CloseParen))
by_variant (Expr-F.Throw n) = subst ExprFront (sym (e.rolls-Throw n)) (said (shapes.text-Throw n) (throw_front n))
by_variant (Expr-F.Paren y) = subst ExprFront (sym (e.rolls-Paren y.0)) (said (shapes.text-Paren y.0) (word_front m.OpenParen ▸ y.1 ▸ word_front m.CloseParen))
by_variant (Expr-F.Minus y) = subst ExprFront (sym (e.rolls-Minus y.0)) (said (shapes.text-Minus y.0) (word_front m.MinusSign ▸ y.1))
by_variant (Expr-F.Not y) = subst ExprFront (sym (e.rolls-Not y.0)) (said (shapes.text-Not y.0) (word_front m.Exclamation ▸ y.1))
by_variant (Expr-F.Chain y ys) =
    let xs = map (λ (z : KnownPart). z.0) ys in
    subst ExprFront (sym (e.rolls-Chain y.0 xs)) (said (shapes.text-Chain y.0 xs) (y.1 ▸ each_known PartFront chain_part part_front ys))
by_variant (Expr-F.Compare o y z) =
    subst ExprFront (sym (e.rolls-Compare o y.0 z.0)) (said (shapes.text-Compare o y.0 z.0) (y.1 ▸ optional_front word word_front (compare_mark o) ▸ z.1))
by_variant (Expr-F.All ys) =
    let xs = map (λ (z : Known). z.0) ys in
    subst ExprFront (sym (e.rolls-All xs)) (said (shapes.text-All xs) (separated_known ExprFront m.AmpersandAmpersand expr (λ x p. p) ys))
by_variant (Expr-F.Any ys) =
    let xs = map (λ (z : Known). z.0) ys in
    subst ExprFront (sym (e.rolls-Any xs)) (said (shapes.text-Any xs) (separated_known ExprFront m.BarBar expr (λ x p. p) ys))
by_variant (Expr-F.If x y z) =
    subst ExprFront (sym (e.rolls-If x.0 y.0 z.0)) (said (shapes.text-If x.0 y.0 z.0) (word_front m.If ▸ x.1 ▸ word_front m.Then ▸ y.1 ▸ word_front m.Else ▸ z.1))

pub expr_front : (x : Expr) → IsFront (expr x)
expr_front = ind-Expr ExprFront PartFront (λ x y is. subst (λ z. ExprFront (roll-Expr z)) is (by_variant y)) (λ x y is. subst (λ z. ExprFront z.operand) is y.operand.1)

-- ---- statements of a loop's body

place_front : (x : Place) → IsFront (place x)
place_front x = name_front x.array ▸ word_front m.OpenBracket ▸ expr_front x.index ▸ word_front m.CloseBracket

value_front : (n : Mark) (x : Expr) → IsFront (value n x)
value_front n x = word_front n ▸ expr_front x ▸ word_front m.Semicolon

abbrev StmtFront : BodyStmt → Type 0
StmtFront x = IsFront (bstmt x)

-- a statement with what is known of it
abbrev KnownStmt : Type 0
KnownStmt = (x : BodyStmt) × StmtFront x

body_known : (ys : List KnownStmt) → IsFront (body (map (λ (y : KnownStmt). y.0) ys))
body_known ys = word_front m.OpenBrace ▸ each_known StmtFront bstmt (λ x p. p) ys ▸ word_front m.CloseBrace

else_known : (ys : List KnownStmt) → IsFront (else_body (map (λ (y : KnownStmt). y.0) ys))
else_known ys = word_front m.Else ▸ body_known ys

by_stmt : (y : BodyStmt-F KnownStmt) → StmtFront (roll-BodyStmt (map-BodyStmt KnownStmt BodyStmt (λ z. z.0) y))
by_stmt (BodyStmt-F.Assign at x) = subst StmtFront (sym (b.rolls-Assign at x)) (said (phrases.text-Assign at x) (place_front at ▸ value_front m.Equal x))
by_stmt (BodyStmt-F.Let text x) = subst StmtFront (sym (b.rolls-Let text x)) (said (phrases.text-Let text x) (word_front m.Let ▸ name_front text ▸ value_front m.Equal x))
by_stmt (BodyStmt-F.Combine text x) = subst StmtFront (sym (b.rolls-Combine text x)) (said (phrases.text-Combine text x) (name_front text ▸ value_front m.TildeEqual x))
by_stmt (BodyStmt-F.If x ys None) =
    let xs = map (λ (z : KnownStmt). z.0) ys in
    subst StmtFront (sym (b.rolls-If x xs None)) (said (phrases.text-If x xs None) (word_front m.If ▸ expr_front x ▸ body_known ys))
by_stmt (BodyStmt-F.If x ys (Some zs)) =
    let xs = map (λ (z : KnownStmt). z.0) ys in
    let us = map (λ (z : KnownStmt). z.0) zs in
    subst StmtFront (sym (b.rolls-If x xs (Some us))) (said (phrases.text-If x xs (Some us)) (word_front m.If ▸ expr_front x ▸ body_known ys ▸ else_known zs))
by_stmt (BodyStmt-F.VecOff ys) =
    let xs = map (λ (z : KnownStmt). z.0) ys in
    subst StmtFront (sym (b.rolls-VecOff xs)) (said (phrases.text-VecOff xs) (word_front m.VecOff ▸ body_known ys))
by_stmt (BodyStmt-F.Ordered at o x) =
    subst StmtFront (sym (b.rolls-Ordered at o x)) (said (phrases.text-Ordered at o x)
    (word_front m.Ordered ▸ place_front at ▸ optional_front word word_front (upd_mark o) ▸ expr_front x ▸ word_front m.Semicolon))

pub bstmt_front : (x : BodyStmt) → IsFront (bstmt x)
bstmt_front = ind-BodyStmt StmtFront (λ x y is. subst (λ z. StmtFront (roll-BodyStmt z)) is (by_stmt y))

body_front : (xs : List BodyStmt) → IsFront (body xs)
body_front xs = word_front m.OpenBrace ▸ each_front bstmt bstmt_front xs ▸ word_front m.CloseBrace

-- ---- loops

step_front : (x : Sum) → IsFront (step_part x)
step_front x = word_front m.Step ▸ sum_front x

identity_front : (x : Val) → IsFront (identity_part x)
identity_front x = word_front m.Identity ▸ val_front x

initial_front : (x : Initial) → IsFront (initial x)
initial_front (initials.Val x) = val_front x
initial_front (initials.Cell x) = cell_front x

reduce_front : (x : ReduceClause) → IsFront (reduce_clause x)
reduce_front x = word_front m.Reduce ▸ cell_front x.cell ▸ op_front x.op ▸ optional_front identity_part identity_front x.identity ▸ word_front m.As ▸ name_front x.view

induct_front : (x : InductClause) → IsFront (induct_clause x)
induct_front x =
    word_front m.Induct ▸ name_front x.name ▸ word_front m.Colon ▸ word_front (kind x.kind) ▸ word_front m.Equal ▸ initial_front x.initial
    ▸ optional_front step_part step_front x.step

clause_front : (x : Clause) → IsFront (clause x)
clause_front (clauses.Reduce x) = reduce_front x
clause_front (clauses.Induct x) = induct_front x

pub loop_front : (x : Loop) → IsFront (loop x)
loop_front x =
    word_front m.ForLoop ▸ word_front (policy x.policy) ▸ name_front x.index ▸ word_front m.Equal ▸ sum_front x.low ▸ word_front m.To ▸ sum_front x.high
    ▸ optional_front step_part step_front x.step ▸ each_front clause clause_front x.clauses ▸ body_front x.body

-- ---- task blocks

abbrev TaskFront : TaskStmt → Type 0
TaskFront x = IsFront (tstmt x)

abbrev BlockFront : Block → Type 0
BlockFront x = IsFront (block x)

-- a statement of a block, and a block, with what is known of it
abbrev KnownTask : Type 0
KnownTask = (x : TaskStmt) × TaskFront x

abbrev KnownBlock : Type 0
KnownBlock = (x : Block) × BlockFront x

tasks_known : (ys : List KnownTask) → IsFront (task_body (map (λ (y : KnownTask). y.0) ys))
tasks_known ys = word_front m.OpenBrace ▸ each_known TaskFront tstmt (λ x p. p) ys ▸ word_front m.CloseBrace

by_task : (y : TaskStmt-F KnownTask KnownBlock) → TaskFront (roll-TaskStmt (map-TaskStmt KnownTask KnownBlock TaskStmt Block (λ z. z.0) (λ z. z.0) y))
by_task (TaskStmt-F.Run ys) =
    let xs = map (λ (z : KnownTask). z.0) ys in
    subst TaskFront (sym (t.rolls-Run xs)) (said (tasks.text-Run xs) (word_front m.Run ▸ tasks_known ys))
by_task TaskStmt-F.Wait = subst TaskFront (sym t.rolls-Wait) (said tasks.text-Wait (word_front m.Wait ▸ word_front m.Semicolon))
by_task (TaskStmt-F.Throw n) = subst TaskFront (sym (t.rolls-Throw n)) (said (tasks.text-Throw n) (throw_front n ▸ word_front m.Semicolon))
by_task (TaskStmt-F.Assign at x) = subst TaskFront (sym (t.rolls-Assign at x)) (said (tasks.text-Assign at x) (cell_front at ▸ value_front m.Equal x))
by_task (TaskStmt-F.Call x) = subst TaskFront (sym (t.rolls-Call x)) (said (tasks.text-Call x) (call_front x))
by_task (TaskStmt-F.Loop x) = subst TaskFront (sym (t.rolls-Loop x)) (said (tasks.text-Loop x) (loop_front x))
by_task (TaskStmt-F.Block y) = subst TaskFront (sym (t.rolls-Block y.0)) (said (tasks.text-Block y.0) y.1)

by_block : (y : Block-F KnownTask KnownBlock) → BlockFront (roll-Block (map-Block KnownTask KnownBlock TaskStmt Block (λ z. z.0) (λ z. z.0) y))
by_block y =
    let x = map-Block KnownTask KnownBlock TaskStmt Block (λ z. z.0) (λ z. z.0) y in
    said (tasks.block_text (roll-Block x)) (subst (λ z. IsFront (task_block z.body)) (sym (out-roll-Block x)) (word_front m.TaskBlock ▸ tasks_known y.body))

pub block_front : (x : Block) → IsFront (block x)
block_front =
    ind-Block TaskFront BlockFront (λ x y is. subst (λ z. TaskFront (roll-TaskStmt z)) is (by_task y)) (λ x y is. subst (λ z. BlockFront (roll-Block z)) is (by_block y))

-- ---- declarations and items

start_front : (x : Start) → IsFront (start x)
start_front (starts.List xs) = word_front m.List ▸ separated_front m.Comma val val_front xs
start_front (starts.Fill x) = word_front m.Fill ▸ val_front x
start_front (starts.Iota x y) = word_front m.Iota ▸ sum_front x ▸ word_front m.Step ▸ sum_front y
start_front (starts.Mix x) = word_front m.Mix ▸ sum_front x

const_front : (x : ConstDecl) → IsFront (const_decl x)
const_front x = word_front m.Const ▸ name_front x.name ▸ word_front m.Equal ▸ sum_front x.value ▸ word_front m.Semicolon

array_front : (x : ArrayDecl) → IsFront (array_decl x)
array_front x =
    word_front m.Array ▸ name_front x.name ▸ word_front m.Colon ▸ word_front (kind x.kind) ▸ word_front m.OpenBracket ▸ sum_front x.length ▸ word_front m.CloseBracket
    ▸ word_front m.Equal ▸ start_front x.start ▸ word_front m.Semicolon

param_front : (x : Param) → IsFront (param x)
param_front x = name_front x.name ▸ word_front m.Colon ▸ word_front (kind x.kind)

function_front : (x : FunctionDecl) → IsFront (function_decl x)
function_front x =
    word_front m.Function ▸ name_front x.name ▸ word_front m.OpenParen ▸ separated_front m.Comma param param_front x.params ▸ word_front m.CloseParen
    ▸ word_front m.Arrow ▸ word_front (kind x.kind) ▸ word_front m.Equal ▸ expr_front x.body ▸ word_front m.Semicolon

pub item_front : (x : Item) → IsFront (item x)
item_front (items.Const x) = const_front x
item_front (items.Array x) = array_front x
item_front (items.Function x) = function_front x
item_front (items.Call x) = call_front x
item_front (items.Loop x) = loop_front x
item_front (items.Block x) = block_front x
item_front (items.Print text) = word_front m.Print ▸ name_front text ▸ word_front m.Semicolon
