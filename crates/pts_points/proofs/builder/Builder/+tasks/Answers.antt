use Rattle.std.proofs.Common.{[], ◌∷◌, ap, sym, ◌∙◌, arith}
use Rattle.std.specs.Prelude.{flat_map}
use Rattle.std.proofs.lemmas.Result.{on_ok_weaker}
use Rattle.pts_tree.specs.declared.block.TaskStmt.TheVariants as tasks
use Rattle.pts_rules.specs.Parts.{Throw, Assign, Call, Loop}
use Rattle.pts_points.specs.Building.{task_statements}
use Rattle.pts_points.proofs.Weights.{task_weight, task_weights, task_weight_below, weight-Run, weight-Block}
use Rattle.pts_points.proofs.StatementTurns.{with_none, statements_turn, statements_all, room_for_task}
use Rattle.pts_points.proofs.TaskTurns.{task-Run, task-Wait, task-Throw, task-Assign, task-Call, task-Loop, task-Block, by_form, room_by_form, with_throw}
use Rattle.pts_points.proofs.builder.Builder.«+tasks».Goals as goal

pub add_task-add_tasks-requires : goal.add_task-add_tasks-requires
add_task-add_tasks-requires t c = (
  omega (arith, c.decreases, ap task_weight c.in-Run.is, weight-Run c.in-Run.body, ap task_weights c.as_slice.ensures),
  room_by_form c.args.scope.now c.args.self.now c.args.self.now c.args.stmt.now (tasks.Run c.in-Run.body) (flat_map task_statements c.as_slice.result.now) c.in-Run.is (task-Run c.in-Run.body ∙ ap (flat_map task_statements) (sym c.as_slice.ensures)) c.requires,
)

pub add_task-add_call-requires : goal.add_task-add_call-requires
add_task-add_call-requires t c = room_by_form c.args.scope.now c.args.self.now c.args.self.now c.args.stmt.now (tasks.Call c.in-Call.call) (Call c.in-Call.call ∷ []) c.in-Call.is (task-Call c.in-Call.call) c.requires

pub add_task-add_loop-requires : goal.add_task-add_loop-requires
add_task-add_loop-requires t c = room_by_form c.args.scope.now c.args.self.now c.args.self.now c.args.stmt.now (tasks.Loop c.in-Loop.x) (Loop c.in-Loop.x ∷ []) c.in-Loop.is (task-Loop c.in-Loop.x) c.requires

pub add_task-add_tasks-requires-in-Block : goal.add_task-add_tasks-requires-in-Block
add_task-add_tasks-requires-in-Block t c = (
  omega (arith, c.decreases, ap task_weight c.in-Block.is, weight-Block c.in-Block.block, ap task_weights c.as_slice-in-Block.ensures),
  room_by_form c.args.scope.now c.args.self.now c.args.self.now c.args.stmt.now (tasks.Block c.in-Block.block) (flat_map task_statements c.as_slice-in-Block.result.now) c.in-Block.is (task-Block c.in-Block.block ∙ ap (flat_map task_statements) (sym c.as_slice-in-Block.ensures)) c.requires,
)

pub add_task-returns-in-Run : goal.add_task-returns-in-Run
add_task-returns-in-Run t c = on_ok_weaker c.add_tasks.result (by_form c.args.scope.now c.args.self.now c.add_tasks.new.self c.args.stmt.now (tasks.Run c.in-Run.body) (flat_map task_statements c.as_slice.result.now) c.in-Run.is (task-Run c.in-Run.body ∙ ap (flat_map task_statements) (sym c.as_slice.ensures))) c.add_tasks.ensures

pub add_task-returns-in-Wait : goal.add_task-returns-in-Wait
add_task-returns-in-Wait t c = by_form c.args.scope.now c.args.self.now c.args.self.now c.args.stmt.now tasks.Wait [] c.in-Wait.is task-Wait (with_none c.args.scope.now c.args.self.now)

pub add_task-returns-in-Throw : goal.add_task-returns-in-Throw
add_task-returns-in-Throw t c =
    by_form c.args.scope.now c.args.self.now c.args.self.now c.args.stmt.now (tasks.Throw c.in-Throw.field-0) (Throw c.in-Throw.field-0 ∷ []) c.in-Throw.is (task-Throw c.in-Throw.field-0) (with_throw c.args.scope.now c.args.self.now c.in-Throw.field-0)

pub add_task-returns-in-Assign : goal.add_task-returns-in-Assign
add_task-returns-in-Assign t c = on_ok_weaker c.add_assign.result (by_form c.args.scope.now c.args.self.now c.add_assign.new.self c.args.stmt.now (tasks.Assign c.in-Assign.cell c.in-Assign.value) (Assign c.in-Assign.cell c.in-Assign.value ∷ []) c.in-Assign.is (task-Assign c.in-Assign.cell c.in-Assign.value)) c.add_assign.ensures

pub add_task-returns-in-Call : goal.add_task-returns-in-Call
add_task-returns-in-Call t c = on_ok_weaker c.add_call.result (by_form c.args.scope.now c.args.self.now c.add_call.new.self c.args.stmt.now (tasks.Call c.in-Call.call) (Call c.in-Call.call ∷ []) c.in-Call.is (task-Call c.in-Call.call)) c.add_call.ensures

pub add_task-returns-in-Loop : goal.add_task-returns-in-Loop
add_task-returns-in-Loop t c = on_ok_weaker c.add_loop.result (by_form c.args.scope.now c.args.self.now c.add_loop.new.self c.args.stmt.now (tasks.Loop c.in-Loop.x) (Loop c.in-Loop.x ∷ []) c.in-Loop.is (task-Loop c.in-Loop.x)) c.add_loop.ensures

pub add_task-returns-in-Block : goal.add_task-returns-in-Block
add_task-returns-in-Block t c = on_ok_weaker c.add_tasks-in-Block.result (by_form c.args.scope.now c.args.self.now c.add_tasks-in-Block.new.self c.args.stmt.now (tasks.Block c.in-Block.block) (flat_map task_statements c.as_slice-in-Block.result.now) c.in-Block.is (task-Block c.in-Block.block ∙ ap (flat_map task_statements) (sym c.as_slice-in-Block.ensures))) c.add_tasks-in-Block.ensures

pub add_tasks-loop-stmt-init : goal.add_tasks-loop-stmt-init
add_tasks-loop-stmt-init t c = with_none c.args.scope.now c.args.self.now

pub add_tasks-add_task-requires : goal.add_tasks-add_task-requires
add_tasks-add_task-requires t c = (
  omega (arith, c.decreases, task_weight_below c.args.stmts.now c.loop-stmt.stmt-index c.stmt-item.result c.loop-stmt-test.true c.stmt-item.is),
  room_for_task task_statements c.args.scope.now c.args.self.now c.loop-stmt.self c.args.stmts.now c.loop-stmt.stmt-index c.stmt-item.result c.loop-stmt-test.true c.stmt-item.is c.loop-stmt.invariant c.requires,
)

pub add_tasks-loop-stmt-preserved : goal.add_tasks-loop-stmt-preserved
add_tasks-loop-stmt-preserved t c =
    statements_turn task_statements c.args.scope.now c.args.self.now c.loop-stmt.self c.add_task.new.self c.args.stmts.now c.loop-stmt.stmt-index c.stmt-item.result c.loop-stmt-test.true c.stmt-item.is c.loop-stmt.invariant c.in_ok-add_task.ensures

pub add_tasks-returns : goal.add_tasks-returns
add_tasks-returns t c = statements_all task_statements c.args.scope.now c.args.self.now c.loop-stmt.self c.args.stmts.now c.loop-stmt.stmt-index c.loop-stmt-test.false c.loop-stmt.invariant
