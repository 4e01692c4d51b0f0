use Rattle.std.proofs.Common.{sym, ◌∙◌}
use Rattle.pts_calls.proofs.Results.{reduce_form, sum_own, transform_form}
use Rattle.pts_calls.proofs.calls.run_reduction.Goals as goal
use Rattle.pts_calls.proofs.calls.run_reduction.Goals.{then-is_reduce+in_ok-answer, else-is_reduce+in_ok-answer-2}

pub reduce-requires-clause-form : goal.reduce-requires-clause-form
reduce-requires-clause-form g c κs within = reduce_form _ c.args.reduction.now c.requires.there (sym c.is_reduce.ensures ∙ c.if-is_reduce.true)

pub transform_reduce-requires-clause-form : goal.transform_reduce-requires-clause-form
transform_reduce-requires-clause-form g c κs within = transform_form _ c.args.reduction.now c.requires.there (sym c.is_reduce.ensures ∙ c.if-is_reduce.false)

pub returns : goal.returns
returns g c =
    let lists = c.args.cleared.now in
    let store = g.V.View.stands c.args.view.now in
    c.answer_of_sum.ensures c.args.pool lists c.args.call c.args.reduction.now store
    (elim c.if-is_reduce.branch [
      | then-is_reduce+in_ok-answer w ↦ sum_own c.args.pool lists.functions store _ c.args.reduction.now c.if-is_reduce.answer _ c.requires.there w.answer-is w.in_ok-answer.ensures
      | else-is_reduce+in_ok-answer-2 w ↦ sum_own c.args.pool lists.functions store _ c.args.reduction.now c.if-is_reduce.answer _ c.requires.there w.answer-is w.in_ok-answer-2.ensures
    ])
