use Rattle.std.proofs.Common.{◌≡◌, Some, None, sym, ap, ◌∙◌}
use Rattle.pts_tree.specs.declared.loops.BodyStmt.TheVariants as b
use Rattle.pts_tree.specs.Spelling.{Text}
use Rattle.pts_tree.specs.Statements as spec
use Rattle.pts_print.proofs.Chains.{◌▸◌, last, on_text, shown}
use Rattle.pts_tree.proofs.Phrases.{text-If, text-VecOff}
use Rattle.pts_print.proofs.printing.statements.«+put_body».Goals as goal

pub put_else-returns : goal.put_else-returns
put_else-returns z c = last c.put_body.result _ _ c.in_ok-put_mark.ensures c.put_body.ensures

pub put_body_stmt-returns-in_ok-put_mark-in-VecOff : goal.put_body_stmt-returns-in_ok-put_mark-in-VecOff
put_body_stmt-returns-in_ok-put_mark-in-VecOff z c =
    let xs = c.as_slice-in-VecOff.result.now in
    let is : c.args.stmt.now ≡ b.VecOff xs = c.in-VecOff.is ∙ (λ i. b.VecOff (sym c.as_slice-in-VecOff.ensures i)) in
    on_text c.put_body-in-VecOff.result _ _ _ (sym (ap spec.bstmt is ∙ text-VecOff xs))
    (last c.put_body-in-VecOff.result _ _ c.in_ok-put_mark-in-VecOff.ensures c.put_body-in-VecOff.ensures)

pub put_body_stmt-returns-in_default : goal.put_body_stmt-returns-in_default
put_body_stmt-returns-in_default z c =
    let x = c.in-If.test in
    let xs = c.as_slice.result.now in
    let is : c.args.stmt.now ≡ b.If x xs None = c.in-If.is ∙ (λ i. b.If x (sym c.as_slice.ensures i) (c.in_default.is i)) in
    shown {A = Text} (λ f. f) _ _ (sym (ap spec.bstmt is ∙ text-If x xs None))
    (c.in_ok-put_mark-in-If.ensures ▸ c.in_ok-put_expr-in-If.ensures ▸ c.in_ok-put_body-in-If.ensures)

pub put_body_stmt-returns-in_ok-put_else-in-If : goal.put_body_stmt-returns-in_ok-put_else-in-If
put_body_stmt-returns-in_ok-put_else-in-If z c =
    let x = c.in-If.test in
    let xs = c.as_slice.result.now in
    let ys = c.as_slice-in-Some.result.now in
    let is : c.args.stmt.now ≡ b.If x xs (Some ys) =
    c.in-If.is ∙ (λ i. b.If x (sym c.as_slice.ensures i) (c.in-Some.is i)) ∙ (λ i. b.If x xs (Some (sym c.as_slice-in-Some.ensures i))) in
    shown {A = Text} (λ f. f) _ _ (sym (ap spec.bstmt is ∙ text-If x xs (Some ys)))
    (c.in_ok-put_mark-in-If.ensures ▸ c.in_ok-put_expr-in-If.ensures ▸ c.in_ok-put_body-in-If.ensures ▸ c.in_ok-put_else-in-If.ensures)
