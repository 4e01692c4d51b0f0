use Rattle.std.proofs.Common.{◌≡◌, sym, ap, ◌∙◌}
use Rattle.pts_tree.specs.declared.block.TaskStmt.TheVariants as t
use Rattle.pts_tree.specs.Statements as spec
use Rattle.pts_print.proofs.Chains.{last, on_text}
use Rattle.pts_tree.proofs.Tasks.{text-Run, block_text}
use Rattle.pts_print.proofs.printing.statements.«+put_tasks».Goals as goal

pub put_block-returns : goal.put_block-returns
put_block-returns z c =
    on_text c.put_task_body.result _ _ _ (ap (λ xs. spec.task_block xs) c.as_slice.ensures ∙ sym (block_text c.args.block.now))
    (last c.put_task_body.result _ _ c.in_ok-put_mark.ensures c.put_task_body.ensures)

pub put_task_stmt-returns-in_ok-put_mark-in-Run : goal.put_task_stmt-returns-in_ok-put_mark-in-Run
put_task_stmt-returns-in_ok-put_mark-in-Run z c =
    let xs = c.as_slice.result.now in
    let is : c.args.stmt.now ≡ t.Run xs = c.in-Run.is ∙ (λ i. t.Run (sym c.as_slice.ensures i)) in
    on_text c.put_task_body.result _ _ _ (sym (ap spec.tstmt is ∙ text-Run xs))
    (last c.put_task_body.result _ _ c.in_ok-put_mark-in-Run.ensures c.put_task_body.ensures)
