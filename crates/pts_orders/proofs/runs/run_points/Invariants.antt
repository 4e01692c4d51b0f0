use Rattle.std.proofs.Common.{◌-◌, ◌≡◌}
use Rattle.pts_orders.specs.Grids.{points_at}
use Rattle.pts_orders.specs.Runs.{run}
use Rattle.pts_orders.proofs.runs.run_points.Given as goal

abbrev pub invariant-loop-point : goal.invariant-loop-point
invariant-loop-point g l =
    run (g.B.Body.acts l.body) (points_at l.position l.point (l.point-end - l.point)) l.state
    ≡ run (g.B.Body.acts l.body) (points_at l.fn.position l.fn.points.from (l.fn.points.to - l.fn.points.from)) l.fn.state
