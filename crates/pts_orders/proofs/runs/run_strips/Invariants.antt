use Rattle.std.proofs.Common.{◌≡◌, drop}
use Rattle.pts_orders.specs.Grids.{strips}
use Rattle.pts_orders.specs.Runs.{run}
use Rattle.pts_orders.proofs.runs.run_strips.Given as goal

abbrev pub invariant-loop-row : goal.invariant-loop-row
invariant-loop-row g l =
    run (g.B.Body.acts l.body) (strips l.start (drop l.row-index l.positions.ends.now) l.points.from l.points.ends.now) l.state
    ≡ run (g.B.Body.acts l.body) (strips l.positions.from l.positions.ends.now l.points.from l.points.ends.now) l.fn.state
