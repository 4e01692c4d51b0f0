use Rattle.std.proofs.Common.{◌∙◌, [], subst, arith, ◌+◌, ◌*◌}
use Rattle.std.proofs.lemmas.List.{get_or_default}
use Rattle.pts_store.specs.Stores.{shown}
use Rattle.pts_store.specs.Stretches.{Shows}
use Rattle.pts_store.specs.Writes.{Page, in_page}
use Rattle.pts_store.proofs.Accepting.{block-next, block-done}
use Rattle.pts_store.proofs.block.Block.write_into.Goals as goal

pub loop-at-preserved : goal.loop-at-preserved
loop-at-preserved c =
    let P : Page → Type 0 = λ page. Shows shown (in_page page) (c.args.base + c.loop-at.at * 128) 128 c.loop-at.cells c.write_into.new.cells in
    block-next c.as_slice-pages.result.now c.args.base c.loop-at.at c.args.cells.now c.loop-at.cells c.write_into.new.cells
    c.loop-at.invariant (subst P (c.index-pages-at.is ∙ get_or_default c.as_slice-pages.result.now c.loop-at.at c.index-pages-at.result [] (omega arith)) c.write_into.ensures)

pub returns : goal.returns
returns c =
    rw (← c.self.view_is, ← c.as_slice-pages.ensures.value)
    (block-done c.as_slice-pages.result.now c.args.base c.loop-at.at c.args.cells.now c.loop-at.cells c.loop-at.invariant (omega arith))
