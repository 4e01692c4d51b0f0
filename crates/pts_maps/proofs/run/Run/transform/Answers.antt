use Rattle.pts_maps.proofs.TransformRuns.{ends_none}
use Rattle.pts_maps.proofs.run.Run.transform.Goals as goal

pub returns-in-None : goal.returns-in-None
returns-in-None g c =
    ends_none c.args.self.now.program.now.functions (g.V.View.stands c.args.self.now.view.now) c.args.call.now c.in_ok-writes.field-0 c.new.result c.in-None.is c.in_ok-writes.ensures c.new.ensures
