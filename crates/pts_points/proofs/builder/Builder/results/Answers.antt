use Rattle.pts_points.specs.Points.{answer_piece}
use Rattle.pts_points.proofs.CallTurns.{adds_some, adds_none, results_added}
use Rattle.pts_points.proofs.builder.Builder.results.Goals as goal

pub returns-in_ok-answer : goal.returns-in_ok-answer
returns-in_ok-answer c =
    results_added c.args.scope.now c.args.self.now c.written.new.self c.answer.new.self c.args.call.now c.in_ok-written.ensures
    (adds_some (answer_piece c.args.scope.now) c.written.new.self c.answer.new.self c.args.call.now.store c.in-Some.store c.in-Some.is c.in_ok-answer.ensures)

pub returns-in_default : goal.returns-in_default
returns-in_default c =
    results_added c.args.scope.now c.args.self.now c.written.new.self c.written.new.self c.args.call.now c.in_ok-written.ensures
    (adds_none (answer_piece c.args.scope.now) c.written.new.self c.args.call.now.store c.in_default.is)
