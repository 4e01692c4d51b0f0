use Rattle.std.proofs.Common.{◌<◌, arith}
use Rattle.pts_outcomes.specs.MapCalls.{shared_positions}
use Rattle.pts_maps.proofs.TransformRuns.{goes}
use Rattle.pts_maps.proofs.run.Run.write_chunk.Goals as goal

pub loop-at-preserved : goal.loop-at-preserved
loop-at-preserved g c =
    let store = g.V.View.stands c.args.self.now.view.now in
    let last = c.requires.within in
    let before = c.loop-at-test.true in
    let within : c.loop-at.at < shared_positions store c.args.call.now.second c.args.call.now = omega (arith, last, before) in
    goes c.args.self.now.program.now.functions store c.args.call.now c.loop-at.at c.loop-at.layer c.loop-at.invariant within
    c.set.new.self c.in-Some.value c.turn.result c.in-Some.is c.turn.ensures c.in_ok-set.ensures.writes c.in_ok-set.ensures.stands
