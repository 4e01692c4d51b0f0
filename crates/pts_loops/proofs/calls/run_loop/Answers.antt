use Rattle.std.proofs.Common.{subst, sym}
use Rattle.pts_program.specs.declared.lists.Lists.{Lists}
use Rattle.pts_store.specs.Laws.{SameShape}
use Rattle.pts_eval.specs.Cells.{start_store}
use Rattle.pts_loops.specs.Turns.{pass_of}
use Rattle.pts_loops.proofs.Programs.{cells_there, free, in_each_order}
use Rattle.pts_loops.proofs.calls.run_loop.Goals as goal

pub run-requires-clause-cells : goal.run-requires-clause-cells
run-requires-clause-cells g c κs within =
    let shape = subst (λ (lists : Lists). SameShape (start_store lists) (g.V.View.stands c.args.view.now)) (sym c.program-program.ensures.same) c.requires.arrays in
    cells_there c.program-program.result.now c.keeps_its_promises.ensures c.args.call (pass_of c.find_run-run.result) c.find_run-run.ensures.pass (g.V.View.stands c.args.view.now) shape

pub returns-clause-orders : goal.returns-clause-orders
returns-clause-orders g c =
    let store = g.V.View.stands c.args.view.now in
    let lists : Lists = c.program-program.result.now in
    let shape = subst (λ (own : Lists). SameShape (start_store own) store) (sym c.program-program.ensures.same) c.requires.arrays in
    let pass = pass_of c.find_run-run.result in
    rw (← c.program-program.ensures.same)
    (in_each_order c.args.pool store _ pass c.run.result c.find_run-run.ensures.pass (free lists c.keeps_its_promises.ensures c.args.call pass c.find_run-run.ensures.pass store shape c.program-program.ensures.clear) c.run.ensures.orders)
