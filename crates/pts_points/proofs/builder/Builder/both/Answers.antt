use Rattle.std.proofs.lemmas.Result.{on_ok_weaker}
use Rattle.pts_points.proofs.BodyTurns.{both_added}
use Rattle.pts_points.proofs.builder.Builder.both.Goals as goal

pub returns : goal.returns
returns c =
    on_ok_weaker c.reads-2.result (both_added c.args.scope.now c.args.self.now c.reads.new.self c.reads-2.new.self c.args.place.now c.args.value.now c.in_ok-reads.ensures) c.reads-2.ensures
