use Rattle.std.proofs.Common.{ap}
use Rattle.pts_store.specs.Bases.{below}
use Rattle.pts_store.specs.Overlays.{Layer}
use Rattle.pts_store.proofs.Reading.{stands-merge, stands-same}
use Rattle.pts_store.proofs.overlay.Overlay.put_all.Goals as goal

pub returns-clause-stands : goal.returns-clause-stands
returns-clause-stands c =
    stands-merge c.merge.result (below c.self.inside.base) c.args.self.now.stands c.self.inside.writes c.args.writes.now c.merge.new.target
    (ap (λ (l : Layer). l.stands) c.self.view_is) c.merge.ensures.ok

pub returns-clause-same : goal.returns-clause-same
returns-clause-same c =
    stands-same c.merge.result (below c.self.inside.base) c.args.self.now.stands c.self.inside.writes c.merge.new.target
    (ap (λ (l : Layer). l.stands) c.self.view_is) c.merge.ensures.err
