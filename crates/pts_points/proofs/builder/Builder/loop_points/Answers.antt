use Rattle.std.proofs.lemmas.Result.{on_ok_weaker}
use Rattle.pts_points.proofs.CallTurns.{loop_added}
use Rattle.pts_points.proofs.builder.Builder.loop_points.Goals as goal

pub returns : goal.returns
returns c =
    on_ok_weaker c.body.result
    (loop_added c.args.scope.now c.args.self.now c.clauses.new.self c.body.new.self c.args.x.now c.as_slice.result.now c.as_slice-2.result.now c.requires c.as_slice.ensures c.as_slice-2.ensures c.in_ok-clauses.ensures) c.body.ensures
