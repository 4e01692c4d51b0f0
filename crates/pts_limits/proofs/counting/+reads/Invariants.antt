use Rattle.std.proofs.Common.{◌≡◌, map, take}
use Rattle.std.specs.Prelude.{sum}
use Rattle.pts_tree.specs.declared.expr.ChainPart.{ChainPart}
use Rattle.pts_rules.specs.Counts.{reads}
use Rattle.pts_limits.specs.Amounts.{capped}
use Rattle.pts_limits.proofs.counting.«+reads».Given as goal

abbrev pub invariant-reads_of-loop-expr : goal.invariant-reads_of-loop-expr
invariant-reads_of-loop-expr l = l.count ≡ capped (sum (map reads (take l.expr-index l.exprs)))

abbrev pub invariant-part_reads-loop-part : goal.invariant-part_reads-loop-part
invariant-part_reads-loop-part l = l.count ≡ capped (sum (map (λ (y : ChainPart). reads y.operand) (take l.part-index l.parts)))
