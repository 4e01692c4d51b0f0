use Rattle.std.proofs.Common.{◌≡◌, ◌+◌, ◌≤◌, drop}
use Rattle.std.specs.Prelude.{count_by}
use Rattle.pts_loops.specs.Points.{is_live_out}
use Rattle.pts_loops.proofs.run.Run.count_cells.Given as goal

abbrev pub invariant-loop-step : goal.invariant-loop-step
invariant-loop-step l = (l.count + count_by is_live_out (drop l.step-index l.self.steps.now) ≡ count_by is_live_out l.self.steps.now) × (l.count ≤ l.step-index)
