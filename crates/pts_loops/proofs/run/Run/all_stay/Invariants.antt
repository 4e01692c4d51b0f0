use Rattle.std.proofs.Common.{◌≡◌, drop}
use Rattle.std.specs.List.{list_all}
use Rattle.pts_passes.specs.Inductions as spec
use Rattle.pts_loops.proofs.run.Run.all_stay.Given as goal

abbrev pub invariant-loop-j : goal.invariant-loop-j
invariant-loop-j l =
    list_all (spec.clause_stays l.turn.layer.below l.self.head.now.positions) (drop l.j l.clauses) ≡ spec.all_stay l.turn.layer.below l.self.head.now
