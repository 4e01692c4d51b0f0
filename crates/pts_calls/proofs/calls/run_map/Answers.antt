use Rattle.pts_calls.proofs.Results.{count_if_own, find_if_own, for_each_own, transform_own}
use Rattle.pts_calls.proofs.calls.run_map.Goals as goal
use Rattle.pts_calls.proofs.calls.run_map.Goals.{in-ForEach+in_ok-answer-in-ForEach, in-Transform+in_ok-answer-in-Transform, in-FindIf+in_ok-answer-in-FindIf, in-CountIf+in_ok-answer-in-CountIf}

pub returns : goal.returns
returns g c =
    let lists = c.args.cleared.now in
    let store = g.V.View.stands c.args.view.now in
    let form = c.args.form.now in
    let there = c.requires.there in
    c.answer_of_map.ensures c.args.pool lists c.args.call form store
    (elim c.match-form.branch [
      | in-ForEach+in_ok-answer-in-ForEach w ↦ for_each_own c.args.pool.workers lists.functions store _ form there c.match-form.answer _ w.answer-is _ w.in-ForEach.is w.in_ok-answer-in-ForEach.ensures.permitted
      | in-Transform+in_ok-answer-in-Transform w ↦ transform_own c.args.pool.workers lists.functions store _ form there c.match-form.answer _ w.answer-is _ w.in-Transform.is w.in_ok-answer-in-Transform.ensures.permitted
      | in-FindIf+in_ok-answer-in-FindIf w ↦ find_if_own c.args.pool.workers lists.functions store _ form there c.match-form.answer _ w.answer-is _ w.in-FindIf.is w.in_ok-answer-in-FindIf.ensures
      | in-CountIf+in_ok-answer-in-CountIf w ↦ count_if_own c.args.pool.workers lists.functions store _ form there c.match-form.answer _ w.answer-is _ w.in-CountIf.is w.in_ok-answer-in-CountIf.ensures
    ])
