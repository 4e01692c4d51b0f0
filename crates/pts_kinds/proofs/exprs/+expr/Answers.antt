use Rattle.std.proofs.Common.{◌≡◌, ◌∷◌, map, sym, ap, ◌∙◌}
use Rattle.pts_tree.specs.declared.expr.Expr.TheVariants as e
use Rattle.pts_rules.specs.Kinds.{typing, chain_typing}
use Rattle.pts_rules.proofs.Typings.{typing-Chain}
use Rattle.pts_kinds.proofs.Operands.{joined_one}
use Rattle.pts_kinds.proofs.exprs.«+expr».Goals as goal

pub chain_typing-loop-part-preserved : goal.chain_typing-loop-part-preserved
chain_typing-loop-part-preserved t c =
    joined_one (λ y. typing c.args.reads c.args.scope.now y.operand) _ _ _ _ _ _ _ c.loop-part.invariant c.loop-part-test.true c.part-item.is c.part_typing.ensures c.join-operands.ensures

pub expr_typing-returns-in-Chain : goal.expr_typing-returns-in-Chain
expr_typing-returns-in-Chain t c =
    let x = c.get-in-Chain.result.now in
    let parts = c.as_slice-in-Chain.result.now in
    let is : c.args.expr.now ≡ e.Chain x parts = c.in-Chain.is ∙ (λ i. e.Chain (sym c.get-in-Chain.ensures i) (sym c.as_slice-in-Chain.ensures i)) in
    c.chain_typing.ensures
    ∙ ap (λ s. chain_typing (s ∷ map (λ y. typing c.args.reads c.args.scope.now y.operand) parts)) c.expr_typing-first.ensures
    ∙ sym (ap (typing c.args.reads c.args.scope.now) is ∙ typing-Chain c.args.reads c.args.scope.now x parts)
