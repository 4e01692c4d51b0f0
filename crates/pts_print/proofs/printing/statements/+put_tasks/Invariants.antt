use Rattle.pts_tree.specs.Statements as spec
use Rattle.pts_print.proofs.Turns.{Written}
use Rattle.pts_print.proofs.printing.statements.«+put_tasks».Given as goal

abbrev pub invariant-put_task_stmts-loop-stmt : goal.invariant-put_task_stmts-loop-stmt
invariant-put_task_stmts-loop-stmt l = Written spec.tstmt l.stmts 0 l.stmt-index l.initial.out.items l.out.items
