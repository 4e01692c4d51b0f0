use Rattle.std.proofs.Common.{◌-◌, ◌≡◌, drop}
use Rattle.pts_orders.specs.Grids.{strip}
use Rattle.pts_orders.specs.Runs.{run}
use Rattle.pts_orders.proofs.runs.run_strip.Given as goal

abbrev pub invariant-loop-end : goal.invariant-loop-end
invariant-loop-end g l =
    run (g.B.Body.acts l.body) (strip l.positions.from (l.positions.to - l.positions.from) l.from (drop l.end-index l.points.ends.now)) l.state
    ≡ run (g.B.Body.acts l.body) (strip l.positions.from (l.positions.to - l.positions.from) l.points.from l.points.ends.now) l.fn.state
