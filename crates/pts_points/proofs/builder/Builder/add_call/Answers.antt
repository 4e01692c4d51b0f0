use Rattle.std.proofs.Common.{Some, refl}
use Rattle.std.proofs.lemmas.Result.{on_ok_weaker}
use Rattle.pts_points.proofs.TaskTurns.{call_ended}
use Rattle.pts_points.proofs.builder.Builder.add_call.Goals as goal

pub returns : goal.returns
returns c =
    on_ok_weaker c.end_call.result
    (call_ended c.args.scope.now c.args.self.now (record c.args.self.now { call = Some c.in_ok-number.number }) c.call_points.new.self c.end_call.new.self c.args.call.now c.line_of_range-positions.result c.in_ok-number.number c.len-before.result
    c.requires c.len-before.ensures c.in_ok-number.ensures refl c.in_ok-call_points.ensures c.line_of_range-positions.ensures) c.end_call.ensures
