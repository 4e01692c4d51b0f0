use Rattle.std.proofs.Common.{map, sum, ap, arith}
use Rattle.pts_tree.specs.declared.expr.ChainPart.{ChainPart}
use Rattle.pts_code.specs.Values.{numbers}
use Rattle.pts_code.proofs.NumberForms.{numbers-Chain}
use Rattle.pts_code.proofs.Sums.{before_none, before_one}
use Rattle.pts_code.proofs.numbers.«+numbers».Goals as goal

pub numbers_of_all-loop-expr-preserved : goal.numbers_of_all-loop-expr-preserved
numbers_of_all-loop-expr-preserved t c = omega (arith, before_one (numbers c.args.indices) c.args.exprs.now c.loop-expr.expr-index c.expr-item.result c.loop-expr-test.true c.expr-item.is)

pub numbers_of_all-returns : goal.numbers_of_all-returns
numbers_of_all-returns t c = omega (arith, before_none (numbers c.args.indices) c.args.exprs.now c.loop-expr.expr-index (omega (arith, c.loop-expr-test.false)))

pub numbers_of_parts-loop-part-preserved : goal.numbers_of_parts-loop-part-preserved
numbers_of_parts-loop-part-preserved t c =
    omega (arith, before_one (λ (part : ChainPart). numbers c.args.indices part.operand) c.args.parts.now c.loop-part.part-index c.part-item.result c.loop-part-test.true c.part-item.is)

pub numbers_of_parts-returns : goal.numbers_of_parts-returns
numbers_of_parts-returns t c =
    omega (arith, before_none (λ (part : ChainPart). numbers c.args.indices part.operand) c.args.parts.now c.loop-part.part-index (omega (arith, c.loop-part-test.false)))

pub numbers_in-returns-in-Chain : goal.numbers_in-returns-in-Chain
numbers_in-returns-in-Chain t c =
    let n = numbers c.args.indices in
    omega (
      arith,
      c.saturating_add-in-Chain.ensures,
      c.numbers_in-in-Chain.ensures,
      c.numbers_of_parts.ensures,
      ap n c.get-in-Chain.ensures,
      ap (λ ys. sum (map (λ (part : ChainPart). numbers c.args.indices part.operand) ys)) c.as_slice-in-Chain.ensures,
      ap n c.in-Chain.is,
      numbers-Chain c.args.indices c.in-Chain.first c.in-Chain.parts,
    )
