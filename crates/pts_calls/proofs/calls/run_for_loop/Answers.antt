use Rattle.pts_calls.proofs.Results.{loop_form}
use Rattle.pts_calls.proofs.calls.run_for_loop.Goals as goal

pub run_loop-requires-clause-form : goal.run_loop-requires-clause-form
run_loop-requires-clause-form g c κs within = loop_form _ c.args.head.now c.requires.there

pub returns : goal.returns
returns g c = c.answer_of_loop.ensures c.args.pool c.args.cleared.now c.args.call c.args.head.now (g.V.View.stands c.args.view.now) c.in_ok-answer.ensures.permitted
