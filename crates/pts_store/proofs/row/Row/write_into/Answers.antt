use Rattle.std.proofs.Common.{◌∙◌, [], subst, arith, ◌*◌}
use Rattle.std.proofs.lemmas.List.{get_or_default}
use Rattle.pts_store.specs.Stores.{shown}
use Rattle.pts_store.specs.Stretches.{Shows}
use Rattle.pts_store.specs.Writes.{Block, in_block}
use Rattle.pts_store.proofs.Accepting.{row-next, row-done}
use Rattle.pts_store.proofs.row.Row.write_into.Goals as goal

pub loop-at-preserved : goal.loop-at-preserved
loop-at-preserved c =
    let P : Block → Type 0 = λ block. Shows shown (in_block block) (c.loop-at.at * 8192) 8192 c.loop-at.cells c.write_into.new.cells in
    row-next c.as_slice-blocks.result.now c.loop-at.at c.args.cells.now c.loop-at.cells c.write_into.new.cells
    c.loop-at.invariant (subst P (c.index-blocks-at.is ∙ get_or_default c.as_slice-blocks.result.now c.loop-at.at c.index-blocks-at.result [] (omega arith)) c.write_into.ensures)

pub returns : goal.returns
returns c =
    rw (← c.self.view_is, ← c.as_slice-blocks.ensures.value)
    (row-done c.as_slice-blocks.result.now c.loop-at.at c.args.cells.now c.loop-at.cells c.loop-at.invariant (omega arith))
