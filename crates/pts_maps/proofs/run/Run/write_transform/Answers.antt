use Rattle.std.proofs.Common.{arith}
use Rattle.pts_maps.proofs.TransformRuns.{starts}
use Rattle.pts_maps.proofs.run.Run.write_transform.Goals as goal

pub loop-low-init : goal.loop-low-init
loop-low-init g c = (
  starts c.args.self.now.program.now.functions (g.V.View.stands c.args.self.now.view.now) c.args.call.now c.layer-layer.result c.layer-layer.ensures.writes c.layer-layer.ensures.stands,
  omega arith,
  omega arith,
)
