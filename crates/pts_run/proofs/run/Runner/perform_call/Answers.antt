use Rattle.pts_eval.specs.Runs.{Called}
use Rattle.pts_run.proofs.Performed.{gave}
use Rattle.pts_run.proofs.run.Runner.perform_call.Goals as goal

pub returns-in_ok-push_called-in-Gave-clause-performed : goal.returns-in_ok-push_called-in-Gave-clause-performed
returns-in_ok-push_called-in-Gave-clause-performed g c = record {
  answer = Called c.call_form-form.result.now c.in-Gave.given;
  answers = gave c.args.self.now.pool c.args.self.now.cleared.now c.args.call c.args.store.now _ _ c.call_form-form.result.now _ c.in-Gave.given _ c.call_form-form.ensures c.in-Gave.is c.accept.ensures c.in_ok-given.ensures;
  text = c.in_ok-push_called-in-Gave.ensures;
}
