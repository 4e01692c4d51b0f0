use Rattle.std.proofs.Common.{ap, sym, ◌∙◌}
use Rattle.pts_store.specs.Bases.{below}
use Rattle.pts_store.specs.Overlays.{Layer}
use Rattle.pts_store.proofs.Reading.{cell_below, shows_own, shows_below}
use Rattle.pts_store.proofs.overlay.Overlay.cell.Goals as goal

pub read-requires : goal.read-requires
read-requires c =
    cell_below (below c.self.inside.base) c.args.self.now.stands c.self.inside.writes c.args.array c.args.index
    (ap (λ (l : Layer). l.stands) c.self.view_is) c.requires

pub returns-in-Some : goal.returns-in-Some
returns-in-Some c =
    shows_own (below c.self.inside.base) c.args.self.now.stands c.self.inside.writes c.args.array c.args.index c.in-Some.value
    (ap (λ (l : Layer). l.stands) c.self.view_is) c.requires (sym c.get.ensures ∙ c.in-Some.is)

pub returns-in-None : goal.returns-in-None
returns-in-None c =
    shows_below (below c.self.inside.base) c.args.self.now.stands c.self.inside.writes c.args.array c.args.index c.read.new.found
    (ap (λ (l : Layer). l.stands) c.self.view_is) (sym c.get.ensures ∙ c.in-None.is) c.read.ensures
