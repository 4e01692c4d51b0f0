use Rattle.pts_loops.proofs.FirstTurns.{starts}
use Rattle.pts_loops.proofs.run.Run.start.Goals as goal

pub returns-clause-at : goal.returns-clause-at
returns-clause-at g c =
    starts c.args.self.now (g.V.View.stands c.args.view.now) _ c.requires.ready c.layer-layer.ensures.writes c.layer-layer.ensures.stands c.count_cells.ensures
    c.in_ok-begun.ensures c.in_ok-notes.ensures c.in_ok-accumulators.ensures
