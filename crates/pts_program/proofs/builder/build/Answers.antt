use Rattle.std.proofs.Common.{◌≡◌, ◌<◌, length, take, get_or, subst}
use Rattle.std.proofs.lemmas.Result.{err_from_is_err_and}
use Rattle.pts_program.proofs.Ways.{one_more, refusal}
use Rattle.pts_program.proofs.builder.build.Goals as goal

pub loop-item-preserved : goal.loop-item-preserved
loop-item-preserved c =
    let n = c.loop-item.item-index in
    let x = c.item-item.result in
    let before = take n c.args.script.now.items in
    let added = c.in_ok-add.ensures in
    let way = c.loop-item.invariant in
    one_more c.args.script.now n x c.loop-item.builder c.add.new.self way
    (subst (λ xs. n < length xs) c.as_slice-item-items.ensures c.loop-item-test.true)
    (subst (λ xs. x ≡ get_or xs n x) c.as_slice-item-items.ensures c.item-item.is)
    ((added.verdict before way.standing).clean c.args.script.now.version) (added.standing before way.standing) added.lists added.items added.few

pub returns-in_err-add-clause-fault : goal.returns-in_err-add-clause-fault
returns-in_err-add-clause-fault c =
    let n = c.loop-item.item-index in
    let x = c.item-item.result in
    let way = c.loop-item.invariant in
    let p = err_from_is_err_and c.from_residual.result c.from_residual.ensures.1 in
    rw (p.1, p.2)
    (refusal c.args.script.now n x c.loop-item.builder c.in_err-add.field-0.0 way
    (subst (λ xs. n < length xs) c.as_slice-item-items.ensures c.loop-item-test.true)
    (subst (λ xs. x ≡ get_or xs n x) c.as_slice-item-items.ensures c.item-item.is)
    (c.in_err-add.ensures.verdict (take n c.args.script.now.items) way.standing).fault)
