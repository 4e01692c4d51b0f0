-- Statements without constants, form by form.
use Rattle.std.proofs.Common.{◌≡◌, ℕ, Option, None, option_map, List, map, sym, ap, ◌∙◌}
use Rattle.pts_types.specs.declared.operation.ScalarOp.{ScalarOp}
use Rattle.pts_tree.specs.declared.sum.Cell.{Cell}
use Rattle.pts_tree.specs.declared.call.Call.{Call}
use Rattle.pts_tree.specs.declared.expr.Expr.{Expr}
use Rattle.pts_tree.specs.declared.expr.Place.{Place}
use Rattle.pts_tree.specs.declared.loops.Loop.{Loop}
use Rattle.pts_tree.specs.declared.loops.BodyStmt.{BodyStmt}
use Rattle.pts_tree.specs.declared.loops.BodyStmt.TheVariants as b
use Rattle.pts_tree.specs.declared.block.Block.{Block}
use Rattle.pts_tree.specs.declared.block.TaskStmt.{TaskStmt}
use Rattle.pts_tree.specs.declared.block.TaskStmt.TheVariants as t
use Rattle.pts_rules.specs.Known.{Scope}
use Rattle.pts_rules.proofs.StatementFolds.{at-Assign, at-Let, at-Combine, at-If, at-VecOff, at-Ordered, at-Run, at-Wait, at-Throw, at-cell, at-Call, at-Loop, at-Block, at-body}
use Rattle.pts_constants.specs.Resolved.{resolved_expr, resolved_place, resolved_cell, resolved_call, resolved_loop, resolved_stmt, stmt_step, resolved_task, resolved_block, task_step, as_block}

pub stmt-Assign : (scope : Scope) (at : Place) (x : Expr) → resolved_stmt scope (b.Assign at x) ≡ b.Assign (resolved_place scope at) (resolved_expr scope x)
unfolding resolved_stmt
stmt-Assign scope at x = at-Assign BodyStmt (stmt_step scope) at x

pub stmt-Let : (scope : Scope) (name : List ℕ) (x : Expr) → resolved_stmt scope (b.Let name x) ≡ b.Let name (resolved_expr scope x)
unfolding resolved_stmt
stmt-Let scope name x = at-Let BodyStmt (stmt_step scope) name x

pub stmt-Combine : (scope : Scope) (name : List ℕ) (x : Expr) → resolved_stmt scope (b.Combine name x) ≡ b.Combine name (resolved_expr scope x)
unfolding resolved_stmt
stmt-Combine scope name x = at-Combine BodyStmt (stmt_step scope) name x

pub stmt-If : (scope : Scope) (x : Expr) (xs : List BodyStmt) (ys : Option (List BodyStmt)) → resolved_stmt scope (b.If x xs ys) ≡ b.If (resolved_expr scope x) (map (resolved_stmt scope) xs) (option_map (map (resolved_stmt scope)) ys)
unfolding resolved_stmt
stmt-If scope x xs ys = at-If BodyStmt (stmt_step scope) x xs ys

pub stmt-VecOff : (scope : Scope) (xs : List BodyStmt) → resolved_stmt scope (b.VecOff xs) ≡ b.VecOff (map (resolved_stmt scope) xs)
unfolding resolved_stmt
stmt-VecOff scope xs = at-VecOff BodyStmt (stmt_step scope) xs

pub stmt-Ordered : (scope : Scope) (at : Place) (op : ScalarOp) (x : Expr) → resolved_stmt scope (b.Ordered at op x) ≡ b.Ordered (resolved_place scope at) op (resolved_expr scope x)
unfolding resolved_stmt
stmt-Ordered scope at op x = at-Ordered BodyStmt (stmt_step scope) at op x

pub ruleset stmt_by_form = (stmt-Assign, stmt-Let, stmt-Combine, stmt-If, stmt-VecOff, stmt-Ordered)

-- ---- statements of a block

pub task-Run : (scope : Scope) (xs : List TaskStmt) → resolved_task scope (t.Run xs) ≡ t.Run (map (resolved_task scope) xs)
unfolding resolved_task resolved_block
task-Run scope xs = at-Run TaskStmt Block (task_step scope) as_block xs

pub task-Wait : (scope : Scope) → resolved_task scope t.Wait ≡ t.Wait
unfolding resolved_task resolved_block
task-Wait scope = at-Wait TaskStmt Block (task_step scope) as_block

pub task-Throw : (scope : Scope) (n : ℕ) → resolved_task scope (t.Throw n) ≡ t.Throw n
unfolding resolved_task resolved_block
task-Throw scope n = at-Throw TaskStmt Block (task_step scope) as_block n

pub task-Assign : (scope : Scope) (at : Cell) (x : Expr) → resolved_task scope (t.Assign at x) ≡ t.Assign (resolved_cell scope at) (resolved_expr scope x)
unfolding resolved_task resolved_block
task-Assign scope at x = at-cell TaskStmt Block (task_step scope) as_block at x

pub task-Call : (scope : Scope) (x : Call) → resolved_task scope (t.Call x) ≡ t.Call (resolved_call scope x)
unfolding resolved_task resolved_block
task-Call scope x = at-Call TaskStmt Block (task_step scope) as_block x

pub task-Loop : (scope : Scope) (x : Loop) → resolved_task scope (t.Loop x) ≡ t.Loop (resolved_loop scope x)
unfolding resolved_task resolved_block
task-Loop scope x = at-Loop TaskStmt Block (task_step scope) as_block x

pub task-Block : (scope : Scope) (x : Block) → resolved_task scope (t.Block x) ≡ t.Block (resolved_block scope x)
unfolding resolved_task resolved_block
task-Block scope x = at-Block TaskStmt Block (task_step scope) as_block x

pub task-body : (scope : Scope) (x : Block) → resolved_block scope x ≡ record { body = map (resolved_task scope) x.body }
unfolding resolved_task resolved_block
task-body scope x = at-body TaskStmt Block (task_step scope) as_block x

pub ruleset task_by_form = (task-Run, task-Wait, task-Throw, task-Assign, task-Call, task-Loop, task-Block, task-body)

-- ---- an `if` from its parts

pub if_alone : (scope : Scope) (stmt : BodyStmt) (x : Expr) (xs zs : List BodyStmt) (ys : Option (List BodyStmt)) (test : Expr) (body : List BodyStmt)
    → stmt ≡ b.If x xs ys → ys ≡ None → zs ≡ xs → test ≡ resolved_expr scope x → body ≡ map (resolved_stmt scope) zs
    → b.If test body None ≡ resolved_stmt scope stmt
if_alone scope stmt x xs zs ys test body is lone same e f =
    (λ i. b.If (e i) ((f ∙ ap (map (resolved_stmt scope)) same) i) None)
    ∙ sym (stmt-If scope x xs None)
    ∙ (λ i. resolved_stmt scope (b.If x xs (sym lone i)))
    ∙ sym (ap (resolved_stmt scope) is)
