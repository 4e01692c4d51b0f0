use Rattle.pts_points.proofs.CallTurns.{target_added}
use Rattle.pts_points.proofs.builder.Builder.target.Goals as goal

pub returns : goal.returns
returns c = target_added c.args.scope.now c.args.self.now c.push_range.new.self c.args.range.now c.in_ok-push_range.ensures
