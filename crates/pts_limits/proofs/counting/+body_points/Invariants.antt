use Rattle.std.proofs.Common.{◌≡◌, map, take}
use Rattle.std.specs.Prelude.{sum}
use Rattle.pts_rules.specs.Counts.{body_points}
use Rattle.pts_limits.specs.Amounts.{capped}
use Rattle.pts_limits.proofs.counting.«+body_points».Given as goal

abbrev pub invariant-points_of_body-loop-stmt : goal.invariant-points_of_body-loop-stmt
invariant-points_of_body-loop-stmt l = l.count ≡ capped (sum (map body_points (take l.stmt-index l.body)))
