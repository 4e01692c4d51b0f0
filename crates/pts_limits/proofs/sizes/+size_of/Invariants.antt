use Rattle.std.proofs.Common.{◌≡◌, map, take}
use Rattle.pts_tree.specs.declared.expr.ChainPart.{ChainPart}
use Rattle.pts_rules.specs.Counts.{nodes_of, sizing}
use Rattle.pts_limits.specs.Amounts.{capped}
use Rattle.pts_limits.proofs.sizes.«+size_of».Given as goal

abbrev pub invariant-sizes-loop-expr : goal.invariant-sizes-loop-expr
invariant-sizes-loop-expr l = l.size ≡ capped (nodes_of (map (sizing l.scope) (take l.expr-index l.exprs)))

abbrev pub invariant-part_sizes-loop-part : goal.invariant-part_sizes-loop-part
invariant-part_sizes-loop-part l = l.size ≡ capped (nodes_of (map (λ (y : ChainPart). sizing l.scope y.operand) (take l.part-index l.parts)))
