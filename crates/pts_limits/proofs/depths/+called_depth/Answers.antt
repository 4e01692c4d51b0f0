use Rattle.std.proofs.Common.{◌≡◌, sym, ap, ◌∙◌}
use Rattle.std.specs.Prelude.{max}
use Rattle.pts_tree.specs.declared.expr.Expr.TheVariants as e
use Rattle.pts_rules.specs.Counts.{called_depth}
use Rattle.pts_rules.proofs.Depths.{depth-Chain}
use Rattle.pts_limits.proofs.Lists.{deeper}
use Rattle.pts_limits.proofs.depths.+called_depth.Goals as goal

pub called_depth-returns-in-Chain : goal.called_depth-returns-in-Chain
called_depth-returns-in-Chain t c =
    let scope = c.args.scope.now in
    let x = c.get-in-Chain.result.now in
    let parts = c.as_slice-in-Chain.result.now in
    let is : c.args.expr.now ≡ e.Chain x parts = c.in-Chain.is ∙ (λ i. e.Chain (sym c.get-in-Chain.ensures i) (sym c.as_slice-in-Chain.ensures i)) in
    c.max-in-Chain.ensures ∙ (λ i. max (c.called_depth-in-Chain.ensures i) (c.greatest_part_depth.ensures i))
    ∙ sym (ap (called_depth scope) is ∙ depth-Chain scope x parts)

pub greatest_depth-loop-expr-preserved : goal.greatest_depth-loop-expr-preserved
greatest_depth-loop-expr-preserved t c = deeper _ _ _ _ _ _ _ c.loop-expr-test.true c.expr-item.is c.loop-expr.invariant c.called_depth.ensures c.max-depth.ensures

pub greatest_part_depth-loop-part-preserved : goal.greatest_part_depth-loop-part-preserved
greatest_part_depth-loop-part-preserved t c = deeper _ _ _ _ _ _ _ c.loop-part-test.true c.part-item.is c.loop-part.invariant c.called_depth.ensures c.max-depth.ensures
