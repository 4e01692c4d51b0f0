use Rattle.std.proofs.Common.{◌≡◌, sym, ap, ◌∙◌}
use Rattle.pts_tree.specs.declared.expr.Expr.TheVariants as e
use Rattle.pts_tree.specs.Expressions as spec
use Rattle.pts_print.proofs.Chains.{◌▸◌, last, said, said_optional, on_text}
use Rattle.pts_tree.proofs.Shapes.{text-Chain, text-Compare, text-If}
use Rattle.pts_print.proofs.printing.expressions.«+put_expr».Goals as goal

pub put_arguments-returns : goal.put_arguments-returns
put_arguments-returns t c = last c.put_mark-2.result _ _ (c.in_ok-put_name.ensures ▸ c.in_ok-put_mark.ensures ▸ c.in_ok-put_exprs.ensures) c.put_mark-2.ensures

pub put_convert-returns : goal.put_convert-returns
put_convert-returns t c = last c.put_enclosed.result _ _ (said c.kind_mark.ensures c.in_ok-put_mark.ensures) c.put_enclosed.ensures

pub put_element-returns : goal.put_element-returns
put_element-returns t c = last c.put_enclosed.result _ _ c.in_ok-put_name.ensures c.put_enclosed.ensures

pub put_expr-returns-in_ok-put_expr-in-Chain : goal.put_expr-returns-in_ok-put_expr-in-Chain
put_expr-returns-in_ok-put_expr-in-Chain t c =
    let x = c.get-in-Chain.result.now in
    let parts = c.as_slice-in-Chain.result.now in
    let is : c.args.expr.now ≡ e.Chain x parts = c.in-Chain.is ∙ (λ i. e.Chain (sym c.get-in-Chain.ensures i) (sym c.as_slice-in-Chain.ensures i)) in
    on_text c.put_chain_parts.result _ _ _ (sym (ap spec.expr is ∙ text-Chain x parts))
    (last c.put_chain_parts.result _ _ c.in_ok-put_expr-in-Chain.ensures c.put_chain_parts.ensures)

pub put_expr-returns-in_ok-put_optional_mark-in-Compare : goal.put_expr-returns-in_ok-put_optional_mark-in-Compare
put_expr-returns-in_ok-put_optional_mark-in-Compare t c =
    let x = c.get-in-Compare.result.now in
    let y = c.get-in-Compare-2.result.now in
    let op = c.in-Compare.op in
    let is : c.args.expr.now ≡ e.Compare op x y = c.in-Compare.is ∙ (λ i. e.Compare op (sym c.get-in-Compare.ensures i) (sym c.get-in-Compare-2.ensures i)) in
    on_text c.put_expr-in-Compare-2.result _ _ _ (sym (ap spec.expr is ∙ text-Compare op x y))
    (last c.put_expr-in-Compare-2.result _ _
    (c.in_ok-put_expr-in-Compare.ensures ▸ said_optional c.compare_mark.ensures c.in_ok-put_optional_mark-in-Compare.ensures)
    c.put_expr-in-Compare-2.ensures)

pub put_expr-returns-in_ok-put_expr-in-If : goal.put_expr-returns-in_ok-put_expr-in-If
put_expr-returns-in_ok-put_expr-in-If t c =
    let x = c.get-in-If.result.now in
    let y = c.get-in-If-2.result.now in
    let z = c.get-in-If-3.result.now in
    let is : c.args.expr.now ≡ e.If x y z = c.in-If.is ∙ (λ i. e.If (sym c.get-in-If.ensures i) (sym c.get-in-If-2.ensures i) (sym c.get-in-If-3.ensures i)) in
    on_text c.put_next_expr-in-If.result _ _ _ (sym (ap spec.expr is ∙ text-If x y z))
    (last c.put_next_expr-in-If.result _ _ (c.in_ok-put_enclosed-in-If.ensures ▸ c.in_ok-put_expr-in-If.ensures) c.put_next_expr-in-If.ensures)
