use Rattle.std.proofs.Common.{◌-◌, ◌≤◌}
use Rattle.pts_eval.specs.Maps.{truths_in}
use Rattle.pts_maps.specs.Searches.{IsQuiet}
use Rattle.pts_maps.proofs.run.Run.find.Given as goal

abbrev pub invariant-loop-low : goal.invariant-loop-low
invariant-loop-low g l =
    IsQuiet (truths_in l.self.program.now.functions (g.V.View.stands l.self.view.now) l.call) l.low × (l.low ≤ l.count) × (l.chunk ≤ l.low)

abbrev pub decreases-loop-low : goal.decreases-loop-low
decreases-loop-low g l = l.count - l.low
