use Rattle.std.proofs.Common.{arith}
use Rattle.pts_store.proofs.Accepting.{page-next, page-done}
use Rattle.pts_store.proofs.page.Page.write_into.Goals as goal

pub loop-at-preserved : goal.loop-at-preserved
loop-at-preserved c =
    page-next c.as_slice-slots.result.now c.args.base c.loop-at.at c.args.cells.now c.loop-at.cells c.over.result _ _
    c.loop-at.invariant (omega arith) (omega arith) c.over.ensures

pub returns : goal.returns
returns c =
    rw (← c.self.view_is, ← c.as_slice-slots.ensures.value)
    (page-done c.as_slice-slots.result.now c.args.base c.loop-at.at c.args.cells.now c.loop-at.cells c.loop-at.invariant (omega arith))
