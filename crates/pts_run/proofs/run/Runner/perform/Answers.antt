use Rattle.pts_eval.specs.Runs.{Printed}
use Rattle.pts_run.proofs.Performed.{printed}
use Rattle.pts_run.proofs.run.Runner.perform.Goals as goal

pub returns-in_ok-push_printed-in-Print-clause-performed : goal.returns-in_ok-push_printed-in-Print-clause-performed
returns-in_ok-push_printed-in-Print-clause-performed g c = record {
  answer = Printed c.name_of-name.result.now c.cells.result.now;
  answers = printed c.args.self.now.pool c.args.self.now.cleared.now c.program.result.now c.args.store.now c.args.statement c.in-Print.array c.name_of-name.result.now c.cells.result.now c.in-Print.is c.program.ensures.same c.name_of-name.ensures c.cells.ensures;
  text = c.in_ok-push_printed-in-Print.ensures;
}
