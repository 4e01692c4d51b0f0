use Rattle.std.proofs.lemmas.Result.{on_ok_weaker}
use Rattle.pts_points.proofs.BodyTurns.{assign_added}
use Rattle.pts_points.proofs.builder.Builder.assign.Goals as goal

pub returns : goal.returns
returns c =
    on_ok_weaker c.push_place.result (assign_added c.args.scope.now c.args.self.now c.both.new.self c.push_place.new.self c.args.place.now c.args.value.now c.in_ok-both.ensures) c.push_place.ensures
