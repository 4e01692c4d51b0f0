use Rattle.pts_loops.specs.Answers.{end_of, writes_of}
use Rattle.pts_loops.proofs.Ended.{in_all_orders, permitted}
use Rattle.pts_loops.proofs.run.Run.run.Goals as goal

pub returns-clause-permitted : goal.returns-clause-permitted
returns-clause-permitted g c =
    permitted c.args.pool c.args.self.now (g.V.View.stands c.args.view.now) (end_of c.in_ok-answer.answer) (writes_of c.in_ok-answer.answer) c.in_ok-answer.ensures

pub returns-clause-orders : goal.returns-clause-orders
returns-clause-orders g c =
    in_all_orders c.args.pool c.args.self.now (g.V.View.stands c.args.view.now) (end_of c.in_ok-answer.answer) (writes_of c.in_ok-answer.answer) c.in_ok-answer.ensures
