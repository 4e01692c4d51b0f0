use Rattle.std.specs.Prelude.{take}
use Rattle.pts_points.specs.Points.{body_piece}
use Rattle.pts_points.specs.Building.{Adds}
use Rattle.pts_points.proofs.builder.Builder.«+body».Given as goal

abbrev pub invariant-body-loop-stmt : goal.invariant-body-loop-stmt
invariant-body-loop-stmt l = Adds l.initial.self l.self (body_piece l.scope l.initial.self.space (take l.stmt-index l.body))
