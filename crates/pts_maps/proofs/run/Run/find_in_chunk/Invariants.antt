use Rattle.pts_eval.specs.Maps.{truths_in}
use Rattle.pts_maps.specs.Searches.{IsQuiet}
use Rattle.pts_maps.proofs.run.Run.find_in_chunk.Given as goal

abbrev pub invariant-loop-at : goal.invariant-loop-at
invariant-loop-at g l = IsQuiet (truths_in l.self.program.now.functions (g.V.View.stands l.self.view.now) l.call) l.at
