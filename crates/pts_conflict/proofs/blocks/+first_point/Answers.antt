use Rattle.std.proofs.Common.{◌≡◌, ◌-◌, ◌<◌, ◌∙◌, length, ap, sym, arith}
use Rattle.pts_lowering.specs.declared.tasks.LoweredTask.TheOpen.{LoweredTask-F}
use Rattle.pts_lowering.specs.declared.tasks.LoweredTask.TheVariants as tasks
use Rattle.pts_lowering.specs.declared.tasks.LoweredTask.TheViews.{out-LoweredTask}
use Rattle.pts_conflict.proofs.TaskPoints.{behind_all, behind_more, last_ends, run_low, tasks_end}
use Rattle.pts_conflict.proofs.blocks.+first_point.Goals as goal

pub first_point-returns-in-Run : goal.first_point-returns-in-Run
first_point-returns-in-Run t c = λ h.
    let e : out-LoweredTask c.args.task.now ≡ LoweredTask-F.Run c.as_slice.result.now =
    ap out-LoweredTask c.in-Run.is ∙ tasks.outs-Run c.in-Run.tasks ∙ ap LoweredTask-F.Run (sym c.as_slice.ensures) in
    run_low c.args.program.now c.args.task.now c.as_slice.result.now c.first_point_of.result c.args.end e
    (c.first_point_of.ensures (tasks_end c.args.program.now c.args.task.now c.as_slice.result.now c.args.end e h))

pub first_point_of-loop-i-init : goal.first_point_of-loop-i-init
first_point_of-loop-i-init t c = λ h. behind_all c.args.program.now c.args.tasks.now (length c.args.tasks.now) c.args.end (omega arith) h

pub first_point_of-loop-i-preserved : goal.first_point_of-loop-i-preserved
first_point_of-loop-i-preserved t c = λ h.
    let b = c.loop-i.invariant h in
    let some = c.loop-i-test.true in
    let most = c.loop-i.auto.i in
    let within : c.loop-i.i - 1 < length c.args.tasks.now = omega (arith, some, most) in
    let ends = last_ends c.args.program.now c.args.tasks.now c.loop-i.i c.loop-i.at c.args.end c.index-tasks-i.result c.index-tasks-i.result b some within c.index-tasks-i.is in
    behind_more c.args.program.now c.args.tasks.now c.loop-i.i c.loop-i.at c.args.end c.first_point-at.result c.index-tasks-i.result c.index-tasks-i.result b some within c.index-tasks-i.is (c.first_point-at.ensures ends)
