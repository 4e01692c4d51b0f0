use Rattle.std.proofs.Common.{◌≡◌}
use Rattle.pts_tree.specs.declared.expr.ChainPart.{ChainPart}
use Rattle.pts_code.specs.Compiling.{capped}
use Rattle.pts_code.specs.Values.{numbers}
use Rattle.pts_code.proofs.Sums.{numbers_before}
use Rattle.pts_code.proofs.numbers.«+numbers».Given as goal

abbrev pub invariant-numbers_of_all-loop-expr : goal.invariant-numbers_of_all-loop-expr
invariant-numbers_of_all-loop-expr l = l.total ≡ capped (numbers_before (numbers l.indices) l.exprs l.expr-index)

abbrev pub invariant-numbers_of_parts-loop-part : goal.invariant-numbers_of_parts-loop-part
invariant-numbers_of_parts-loop-part l = l.total ≡ capped (numbers_before (λ (part : ChainPart). numbers l.indices part.operand) l.parts l.part-index)
