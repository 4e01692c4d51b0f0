use Rattle.pts_calls.proofs.Results.{scan_own}
use Rattle.pts_calls.proofs.calls.run_scan.Goals as goal

pub returns : goal.returns
returns g c =
    c.answer_of_scan.ensures c.args.pool c.args.cleared.now c.args.call c.args.own.now (g.V.View.stands c.args.view.now)
    (scan_own c.args.pool c.args.cleared.now.functions (g.V.View.stands c.args.view.now) _ c.args.own.now _ c.requires.there c.in_ok-answer.ensures)
