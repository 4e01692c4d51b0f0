use Rattle.std.proofs.Common.{◌≡◌, drop, map}
use Rattle.pts_code.specs.Values.{first_kind, operands}
use Rattle.pts_eval.specs.Expressions.{part_of}
use Rattle.pts_eval.proofs.expressions.«+own_kind».Given as goal

abbrev pub invariant-first_kind-loop-part : goal.invariant-first_kind-loop-part
invariant-first_kind-loop-part l = first_kind (operands (map (part_of l.names) l.parts)) ≡ first_kind (operands (map (part_of l.names) (drop l.part-index l.parts)))
