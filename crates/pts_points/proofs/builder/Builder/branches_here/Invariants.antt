use Rattle.std.proofs.Common.{◌≡◌, map}
use Rattle.std.specs.Prelude.{take}
use Rattle.pts_points.specs.Building as spec
use Rattle.pts_points.proofs.builder.Builder.branches_here.Given as goal

abbrev pub invariant-loop-test : goal.invariant-loop-test
invariant-loop-test l = l.branches ≡ map (λ x. spec.kept_branch (spec.branch_of x)) (take l.test-index l.self.branches)
