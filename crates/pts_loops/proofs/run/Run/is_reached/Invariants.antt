use Rattle.std.proofs.Common.{◌≡◌, drop}
use Rattle.pts_loops.specs.Points as spec
use Rattle.pts_loops.proofs.run.Run.is_reached.Given as goal

abbrev pub invariant-loop-branch : goal.invariant-loop-branch
invariant-loop-branch l =
    spec.is_reached_behind l.self.first_point l.notes (drop l.branch-index l.branches) ≡ spec.is_reached_behind l.self.first_point l.notes l.branches
