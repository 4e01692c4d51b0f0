use Rattle.std.proofs.Common.{subst, sym}
use Rattle.pts_program.specs.declared.lists.Lists.{Lists}
use Rattle.pts_store.specs.Laws.{SameShape}
use Rattle.pts_eval.specs.Cells.{start_store}
use Rattle.pts_maps.proofs.TransformRuns.{ordered_transform, permitted_transform}
use Rattle.pts_maps.proofs.calls.transform.Goals as goal

pub returns-clause-permitted : goal.returns-clause-permitted
returns-clause-permitted g c =
    rw (← c.program-program.ensures.same) (permitted_transform c.args.pool.workers c.program-program.result.now c.args.call (g.V.View.stands c.args.view.now) c.in-Some.own c.transform.result c.find_transform.result c.find_transform.ensures c.in-Some.is c.transform.ensures)

pub returns-clause-orders : goal.returns-clause-orders
returns-clause-orders g c =
    rw (← c.program-program.ensures.same) (ordered_transform c.args.pool.workers c.program-program.result.now c.args.call (g.V.View.stands c.args.view.now) c.keeps_its_promises.ensures
    (subst (λ (lists : Lists). SameShape (start_store lists) (g.V.View.stands c.args.view.now)) (sym c.program-program.ensures.same) c.requires.arrays) c.program-program.ensures.clear c.in-Some.own c.transform.result c.find_transform.result c.find_transform.ensures c.in-Some.is c.transform.ensures)
