use Rattle.pts_eval.specs.Maps.{truths_in}
use Rattle.pts_maps.proofs.Asked.{counted_next}
use Rattle.pts_maps.proofs.run.Run.count_in_chunk.Goals as goal

pub loop-at-preserved : goal.loop-at-preserved
loop-at-preserved g c =
    counted_next (truths_in c.args.self.now.program.now.functions (g.V.View.stands c.args.self.now.view.now) c.args.call.now) c.loop-at.at c.loop-at.matches c.one_if-matches.result
    c.in-Some.truth c.truth.result c.loop-at.invariant c.in-Some.is c.truth.ensures c.one_if-matches.ensures.value
