use Rattle.std.proofs.Common.{◌≡◌, ◌+◌, length, map, sym, ap, ◌∙◌, arith}
use Rattle.std.proofs.lemmas.List.{length-map}
use Rattle.pts_tree.specs.declared.expr.Expr.TheVariants as e
use Rattle.pts_tree.specs.declared.expr.ChainPart.{ChainPart}
use Rattle.pts_rules.specs.Counts.{Size, nodes_of, sizing}
use Rattle.pts_rules.proofs.Sizes.{size-Chain}
use Rattle.pts_limits.proofs.sizes.+size_of.Goals as goal

pub size_of-returns-in-Chain : goal.size_of-returns-in-Chain
size_of-returns-in-Chain t c =
    let scope = c.args.scope.now in
    let x = c.get-in-Chain.result.now in
    let parts = c.as_slice-in-Chain.result.now in
    let f = λ (y : ChainPart). sizing scope y.operand in
    let is : c.args.body.now ≡ e.Chain x parts = c.in-Chain.is ∙ (λ i. e.Chain (sym c.get-in-Chain.ensures i) (sym c.as_slice-in-Chain.ensures i)) in
    let nodes : (sizing scope c.args.body.now).nodes ≡ (sizing scope x).nodes + nodes_of (map f parts) + length parts =
    ap (λ (y : Size). y.nodes) (ap (sizing scope) is ∙ size-Chain scope x parts) ∙ ap (λ n. (sizing scope x).nodes + nodes_of (map f parts) + n) (length-map parts f) in
    omega (arith, nodes, ap length c.as_slice-in-Chain.ensures, c.size_of-in-Chain.ensures, c.part_sizes.ensures, c.saturating_add-in-Chain.ensures, c.len.ensures, c.saturating_add-in-Chain-2.ensures)
