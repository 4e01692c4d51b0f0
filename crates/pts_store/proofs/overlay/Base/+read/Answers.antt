use Rattle.std.proofs.Common.{ap, sym, ◌∙◌, arith}
use Rattle.pts_store.specs.Bases.{below, depth_of}
use Rattle.pts_store.specs.Overlays.{Layer}
use Rattle.pts_store.proofs.Reading.{cell_below, shows_own, shows_below}
use Rattle.pts_store.proofs.overlay.Base.+read.Goals as goal

pub read-requires : goal.read-requires
read-requires t c = (
  omega (arith, ap depth_of c.in-OnOverlay.is, ap (λ (l : Layer). l.depth) c.lower.view_is),
  cell_below (below c.lower.inside.base) (below c.args.self) c.lower.inside.writes c.args.array c.args.index
      (ap (λ (l : Layer). l.stands) c.lower.view_is ∙ sym (ap below c.in-OnOverlay.is)) c.requires,
)

pub returns-in-Some : goal.returns-in-Some
returns-in-Some t c =
    shows_own (below c.lower.inside.base) (below c.args.self) c.lower.inside.writes c.args.array c.args.index c.in-Some.value
    (ap (λ (l : Layer). l.stands) c.lower.view_is ∙ sym (ap below c.in-OnOverlay.is)) c.requires (sym c.get.ensures ∙ c.in-Some.is)

pub returns-in-None : goal.returns-in-None
returns-in-None t c =
    shows_below (below c.lower.inside.base) (below c.args.self) c.lower.inside.writes c.args.array c.args.index c.read.new.found
    (ap (λ (l : Layer). l.stands) c.lower.view_is ∙ sym (ap below c.in-OnOverlay.is)) (sym c.get.ensures ∙ c.in-None.is) c.read.ensures
