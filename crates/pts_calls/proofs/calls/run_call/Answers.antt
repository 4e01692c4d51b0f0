use Rattle.std.proofs.Common.{Some, ap, ◌∙◌}
use Rattle.pts_calls.proofs.Results.{for_form}
use Rattle.pts_calls.proofs.calls.run_call.Goals as goal

pub returns-in-Reduce : goal.returns-in-Reduce
returns-in-Reduce g c =
    for_form c.args.pool c.args.cleared.now c.args.call (g.V.View.stands c.args.view.now) _ _ c.run_reduction.result (c.call_form-form.ensures ∙ ap Some c.in-Reduce.is) c.run_reduction.ensures

pub returns-in-Scan : goal.returns-in-Scan
returns-in-Scan g c =
    for_form c.args.pool c.args.cleared.now c.args.call (g.V.View.stands c.args.view.now) _ _ c.run_scan.result (c.call_form-form.ensures ∙ ap Some c.in-Scan.is) c.run_scan.ensures

pub returns-in-Loop : goal.returns-in-Loop
returns-in-Loop g c =
    for_form c.args.pool c.args.cleared.now c.args.call (g.V.View.stands c.args.view.now) _ _ c.run_for_loop.result (c.call_form-form.ensures ∙ ap Some c.in-Loop.is) c.run_for_loop.ensures
