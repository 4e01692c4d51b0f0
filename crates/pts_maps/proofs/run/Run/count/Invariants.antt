use Rattle.std.proofs.Common.{◌-◌, ◌≤◌}
use Rattle.pts_eval.specs.Maps.{truths_in}
use Rattle.pts_maps.specs.Searches.{AreCounted}
use Rattle.pts_maps.proofs.run.Run.count.Given as goal

abbrev pub invariant-loop-low : goal.invariant-loop-low
invariant-loop-low g l =
    AreCounted (truths_in l.self.program.now.functions (g.V.View.stands l.self.view.now) l.call) l.low l.matches × (l.low ≤ l.count) × (l.chunk ≤ l.low)

abbrev pub decreases-loop-low : goal.decreases-loop-low
decreases-loop-low g l = l.count - l.low
