use Rattle.std.proofs.Common.{◌+◌, ◌≤◌, None, length, subst, sym, ap, ◌∙◌, arith}
use Rattle.std.specs.Prelude.{All}
use Rattle.pts_layout.specs.Layout.{AreByItem, points_before}
use Rattle.pts_layout.proofs.CallParts.{points_by_item}
use Rattle.pts_conflict.specs.Search.{FindsFirst, IsFit, SomeForks, rank_of}
use Rattle.pts_conflict.proofs.PartPairs.{enough, in_block_of, none_in_empty, order, points_fit}
use Rattle.pts_conflict.proofs.Ranges.{rest_part, slice_is}
use Rattle.pts_conflict.proofs.blocks.least_in.Goals as goal

pub returns-then-block-eq0 : goal.returns-then-block-eq0
returns-then-block-eq0 c =
    let lists = c.args.program.now in
    let block = c.index-lowered_blocks-number.result in
    let at = slice_is lists.lowered_blocks c.lowered_blocks.result.now c.args.number block block c.lowered_blocks.ensures c.requires c.index-lowered_blocks-number.is in
    in_block_of lists c.keeps_its_promises.ensures c.args.number block at None (none_in_empty lists c.keeps_its_promises.ensures c.args.number block at c.if-block-eq0.true)

pub points_before-start-requires : goal.points_before-start-requires
points_before-start-requires c = subst AreByItem (sym c.points.ensures) (points_by_item c.args.program.now c.keeps_its_promises.ensures)

pub least_of_body-requires-clause-order : goal.least_of_body-requires-clause-order
least_of_body-requires-clause-order c =
    let lists = c.args.program.now in
    let block = c.index-lowered_blocks-number.result in
    order lists c.keeps_its_promises.ensures c.args.number block
    (slice_is lists.lowered_blocks c.lowered_blocks.result.now c.args.number block block c.lowered_blocks.ensures c.requires c.index-lowered_blocks-number.is)

pub least_of_body-requires-clause-points : goal.least_of_body-requires-clause-points
least_of_body-requires-clause-points c =
    let lists = c.args.program.now in
    let block = c.index-lowered_blocks-number.result in
    let at = slice_is lists.lowered_blocks c.lowered_blocks.result.now c.args.number block block c.lowered_blocks.ensures c.requires c.index-lowered_blocks-number.is in
    let start = c.points_before-start.ensures ∙ ap (λ xs. points_before xs block.item) c.points.ensures in
    let part = rest_part c.points-2.result.now lists.points c.points_before-start.result (points_before lists.points block.item) c.points-2.ensures start in
    let some = c.if-block-eq0.false in
    subst (λ xs. block.first_point + block.points ≤ length xs) (sym part) (enough lists c.keeps_its_promises.ensures c.args.number block at (omega (arith, some)))

pub least_of_body-requires-clause-fit : goal.least_of_body-requires-clause-fit
least_of_body-requires-clause-fit c =
    let lists = c.args.program.now in
    let block = c.index-lowered_blocks-number.result in
    let at = slice_is lists.lowered_blocks c.lowered_blocks.result.now c.args.number block block c.lowered_blocks.ensures c.requires c.index-lowered_blocks-number.is in
    let start = c.points_before-start.ensures ∙ ap (λ xs. points_before xs block.item) c.points.ensures in
    let part = rest_part c.points-2.result.now lists.points c.points_before-start.result (points_before lists.points block.item) c.points-2.ensures start in
    subst (All IsFit) (sym part) (points_fit lists c.keeps_its_promises.ensures c.args.number block at)

pub returns : goal.returns
returns c =
    let lists = c.args.program.now in
    let block = c.index-lowered_blocks-number.result in
    let at = slice_is lists.lowered_blocks c.lowered_blocks.result.now c.args.number block block c.lowered_blocks.ensures c.requires c.index-lowered_blocks-number.is in
    let start = c.points_before-start.ensures ∙ ap (λ xs. points_before xs block.item) c.points.ensures in
    let part = rest_part c.points-2.result.now lists.points c.points_before-start.result (points_before lists.points block.item) c.points-2.ensures start in
    in_block_of lists c.keeps_its_promises.ensures c.args.number block at c.least_of_body.result
    (subst (λ ps. FindsFirst (SomeForks lists ps block.body) rank_of c.least_of_body.result) part c.least_of_body.ensures)
