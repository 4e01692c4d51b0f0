use Rattle.pts_maps.specs.Transforms.{IsAt}
use Rattle.pts_maps.proofs.run.Run.write_chunk.Given as goal

abbrev pub invariant-loop-at : goal.invariant-loop-at
invariant-loop-at g l = IsAt l.self.program.now.functions (g.V.View.stands l.self.view.now) l.call l.at l.layer
