use Rattle.std.proofs.lemmas.Result.{on_ok_weaker}
use Rattle.pts_points.specs.Points.{target_piece}
use Rattle.pts_points.proofs.CallTurns.{adds_some, adds_none}
use Rattle.pts_points.proofs.builder.Builder.written.Goals as goal

pub returns-in-Some : goal.returns-in-Some
returns-in-Some c =
    on_ok_weaker c.target.result (adds_some (target_piece c.args.scope.now) c.args.self.now c.target.new.self c.args.call.now.target c.in-Some.target c.in-Some.is) c.target.ensures

pub returns-in-None : goal.returns-in-None
returns-in-None c = adds_none (target_piece c.args.scope.now) c.args.self.now c.args.call.now.target c.in-None.is
