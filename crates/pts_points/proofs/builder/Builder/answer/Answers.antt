use Rattle.pts_points.proofs.CallTurns.{answer_added}
use Rattle.pts_points.proofs.builder.Builder.answer.Goals as goal

pub returns : goal.returns
returns c = answer_added c.args.scope.now c.args.self.now c.push_cell.new.self c.args.cell.now c.in_ok-push_cell.ensures
