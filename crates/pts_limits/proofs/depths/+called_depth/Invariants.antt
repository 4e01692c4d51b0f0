use Rattle.std.proofs.Common.{◌≡◌, map, take}
use Rattle.pts_tree.specs.declared.expr.ChainPart.{ChainPart}
use Rattle.pts_rules.specs.Counts.{called_depth, greatest}
use Rattle.pts_limits.proofs.depths.«+called_depth».Given as goal

abbrev pub invariant-greatest_depth-loop-expr : goal.invariant-greatest_depth-loop-expr
invariant-greatest_depth-loop-expr l = l.depth ≡ greatest (map (called_depth l.scope) (take l.expr-index l.exprs))

abbrev pub invariant-greatest_part_depth-loop-part : goal.invariant-greatest_part_depth-loop-part
invariant-greatest_part_depth-loop-part l = l.depth ≡ greatest (map (λ (y : ChainPart). called_depth l.scope y.operand) (take l.part-index l.parts))
