use Rattle.std.proofs.Common.{Some, refl}
use Rattle.std.proofs.lemmas.Result.{on_ok_weaker}
use Rattle.pts_points.proofs.TaskTurns.{loop_ended}
use Rattle.pts_points.proofs.builder.Builder.add_loop.Goals as goal

pub returns : goal.returns
returns c =
    on_ok_weaker c.end_call.result
    (loop_ended c.args.scope.now c.args.self.now (record c.args.self.now { call = Some c.in_ok-number.number; space = c.in_ok-self.field-0 }) c.loop_points.new.self c.end_call.new.self c.args.x.now c.in_ok-self.field-0 c.small-positions.result
    c.in_ok-number.number c.len-before.result c.requires c.len-before.ensures c.in_ok-number.ensures c.in_ok-self.ensures c.small-positions.ensures refl c.in_ok-loop_points.ensures) c.end_call.ensures
