use Rattle.std.proofs.Common.{map}
use Rattle.std.specs.Prelude.{take}
use Rattle.pts_points.specs.Pieces.{sequence}
use Rattle.pts_points.specs.Points.{reads_of}
use Rattle.pts_points.specs.Building.{Adds}
use Rattle.pts_points.proofs.builder.Builder.«+reads».Given as goal

abbrev pub invariant-each-loop-expr : goal.invariant-each-loop-expr
invariant-each-loop-expr l = Adds l.initial.self l.self (sequence (map (reads_of l.scope l.initial.self.space) (take l.expr-index l.exprs)))

abbrev pub invariant-operands-loop-part : goal.invariant-operands-loop-part
invariant-operands-loop-part l = Adds l.initial.self l.self (sequence (map (λ x. reads_of l.scope l.initial.self.space x.operand) (take l.part-index l.parts)))
