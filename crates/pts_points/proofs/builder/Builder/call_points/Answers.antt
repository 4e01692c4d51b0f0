use Rattle.std.proofs.lemmas.Result.{on_ok_weaker}
use Rattle.pts_points.proofs.CallTurns.{call_added}
use Rattle.pts_points.proofs.builder.Builder.call_points.Goals as goal

pub returns : goal.returns
returns c =
    on_ok_weaker c.results.result (call_added c.args.scope.now c.args.self.now c.sources.new.self c.own.new.self c.results.new.self c.args.call.now c.in_ok-sources.ensures c.in_ok-own.ensures) c.results.ensures
