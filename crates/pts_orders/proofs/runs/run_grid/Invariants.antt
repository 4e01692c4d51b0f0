use Rattle.std.proofs.Common.{◌-◌, ◌≡◌}
use Rattle.pts_orders.specs.Grids.{grid}
use Rattle.pts_orders.specs.Runs.{run}
use Rattle.pts_orders.proofs.runs.run_grid.Given as goal

abbrev pub invariant-loop-position : goal.invariant-loop-position
invariant-loop-position g l =
    run (g.B.Body.acts l.body) (grid l.position (l.position-end - l.position) l.points.from (l.points.to - l.points.from)) l.state
    ≡ run (g.B.Body.acts l.body) (grid l.fn.positions.from (l.fn.positions.to - l.fn.positions.from) l.points.from (l.points.to - l.points.from)) l.fn.state
