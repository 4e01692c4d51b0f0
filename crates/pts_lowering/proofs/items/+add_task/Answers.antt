use Rattle.std.proofs.Common.{[], ◌∷◌, ap, sym, ◌∙◌, arith}
use Rattle.std.specs.Prelude.{flat_map}
use Rattle.pts_tree.specs.declared.block.TaskStmt.TheVariants as tasks
use Rattle.pts_rules.specs.Parts.{Call, Loop}
use Rattle.pts_rules.proofs.Tasks.{task_statements, statements-Run, statements-Call, statements-Loop, statements-Block, statements-body}
use Rattle.pts_points.proofs.Weights.{task_weight, task_weights, task_weight_below, weight-Run, weight-Block}
use Rattle.pts_constants.proofs.Additions.{nothing_added}
use Rattle.pts_lowering.specs.Forms.{task_calls}
use Rattle.pts_lowering.proofs.ItemForms.{calls-Wait, calls-Throw, calls-Assign, form_lowered, part_lowered}
use Rattle.pts_lowering.proofs.items.«+add_task».Goals as goal

pub add_task-add_tasks-requires : goal.add_task-add_tasks-requires
add_task-add_tasks-requires t c = (
  omega (arith, c.decreases, ap task_weight c.in-Run.is, weight-Run c.in-Run.body, ap task_weights c.as_slice.ensures),
  form_lowered c.args.scope.now c.args.stmt.now (tasks.Run c.in-Run.body) (flat_map task_statements c.as_slice.result.now) c.in-Run.is
      (statements-Run c.in-Run.body ∙ ap (flat_map task_statements) (sym c.as_slice.ensures)) c.requires,
)

pub add_task-add_call-requires : goal.add_task-add_call-requires
add_task-add_call-requires t c = form_lowered c.args.scope.now c.args.stmt.now (tasks.Call c.in-Call.call) (Call c.in-Call.call ∷ []) c.in-Call.is (statements-Call c.in-Call.call) c.requires

pub add_task-add_loop-requires : goal.add_task-add_loop-requires
add_task-add_loop-requires t c = form_lowered c.args.scope.now c.args.stmt.now (tasks.Loop c.in-Loop.x) (Loop c.in-Loop.x ∷ []) c.in-Loop.is (statements-Loop c.in-Loop.x) c.requires

pub add_task-add_tasks-requires-in-Block : goal.add_task-add_tasks-requires-in-Block
add_task-add_tasks-requires-in-Block t c = (
  omega (arith, c.decreases, ap task_weight c.in-Block.is, weight-Block c.in-Block.block, ap task_weights c.as_slice-in-Block.ensures),
  form_lowered c.args.scope.now c.args.stmt.now (tasks.Block c.in-Block.block) (flat_map task_statements c.as_slice-in-Block.result.now) c.in-Block.is
      (statements-Block c.in-Block.block ∙ statements-body c.in-Block.block ∙ ap (flat_map task_statements) (sym c.as_slice-in-Block.ensures)) c.requires,
)

pub add_tasks-add_task-requires : goal.add_tasks-add_task-requires
add_tasks-add_task-requires t c = (
  omega (arith, c.decreases, task_weight_below c.args.stmts.now c.loop-stmt.stmt-index c.stmt-item.result c.loop-stmt-test.true c.stmt-item.is),
  part_lowered c.args.scope.now c.args.stmts.now c.loop-stmt.stmt-index c.stmt-item.result c.loop-stmt-test.true c.stmt-item.is c.requires,
)

pub add_task-returns-in-Wait : goal.add_task-returns-in-Wait
add_task-returns-in-Wait t c = nothing_added c.args.calls.now (task_calls c.args.scope.now c.args.stmt.now) (ap (task_calls c.args.scope.now) c.in-Wait.is ∙ calls-Wait c.args.scope.now)

pub add_task-returns-in-Throw : goal.add_task-returns-in-Throw
add_task-returns-in-Throw t c =
    nothing_added c.args.calls.now (task_calls c.args.scope.now c.args.stmt.now) (ap (task_calls c.args.scope.now) c.in-Throw.is ∙ calls-Throw c.args.scope.now c.in-Throw.field-0)

pub add_task-returns-in-Assign : goal.add_task-returns-in-Assign
add_task-returns-in-Assign t c =
    nothing_added c.args.calls.now (task_calls c.args.scope.now c.args.stmt.now)
    (ap (task_calls c.args.scope.now) c.in-Assign.is ∙ calls-Assign c.args.scope.now c.in-Assign.field-0 c.in-Assign.field-1)
