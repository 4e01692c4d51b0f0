use Rattle.pts_points.proofs.BodyTurns.{plain_added}
use Rattle.pts_points.proofs.builder.Builder.compute.Goals as goal

pub returns-clause-points : goal.returns-clause-points
returns-clause-points c = plain_added c.args.scope.now c.args.self.now c.reads.new.self c.push.new.self c.args.value.now c.in_ok-reads.ensures c.in_ok-push.ensures
