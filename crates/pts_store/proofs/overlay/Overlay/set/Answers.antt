use Rattle.std.proofs.Common.{ap}
use Rattle.pts_store.specs.Bases.{below}
use Rattle.pts_store.specs.Overlays.{Layer}
use Rattle.pts_store.proofs.Reading.{stands-set, stands-same}
use Rattle.pts_store.proofs.overlay.Overlay.set.Goals as goal

pub returns-clause-stands : goal.returns-clause-stands
returns-clause-stands c =
    stands-set c.set.result (below c.self.inside.base) c.args.self.now.stands c.self.inside.writes c.set.new.self
    c.args.array c.args.index c.args.value (ap (λ (l : Layer). l.stands) c.self.view_is) c.set.ensures.ok

pub returns-clause-same : goal.returns-clause-same
returns-clause-same c =
    stands-same c.set.result (below c.self.inside.base) c.args.self.now.stands c.self.inside.writes c.set.new.self
    (ap (λ (l : Layer). l.stands) c.self.view_is) c.set.ensures.err
