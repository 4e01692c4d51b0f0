use Rattle.std.proofs.Common.{Some, refl, sym, ap, ◌∙◌}
use Rattle.pts_tree.specs.declared.loops.BodyStmt.TheVariants as b
use Rattle.pts_kinds.proofs.Braces.{walked_one, if_both, if_one}
use Rattle.pts_kinds.proofs.bodies.«+body».Goals as goal

pub braces_right-loop-statement-preserved : goal.braces_right-loop-statement-preserved
braces_right-loop-statement-preserved t c =
    walked_one _ _ _ _ _ _ _ _ _ c.loop-statement.invariant c.loop-statement-test.true c.statement-item.is c.in_ok-holds.ensures.answer c.in_ok-holds.ensures.behind c.in_ok-holds.ensures.above refl

pub statement_right-returns-in_ok-other-in-Some-clause-answer : goal.statement_right-returns-in_ok-other-in-Some-clause-answer
statement_right-returns-in_ok-other-in-Some-clause-answer t c =
    let is = c.in-If.is ∙ (λ i. b.If c.in-If.test (sym c.as_slice.ensures i) ((c.in-Some.is ∙ ap Some (sym c.as_slice-in-Some.ensures)) i)) in
    if_both _ _ _ _ _ _ _ _ _ is c.expr_fits-test.ensures c.in_ok-then-in-If.ensures.answer c.in_ok-other-in-Some.ensures.answer c.in_ok-then-in-If.ensures.same

pub statement_right-returns-in-None-clause-answer : goal.statement_right-returns-in-None-clause-answer
statement_right-returns-in-None-clause-answer t c =
    let is = c.in-If.is ∙ (λ i. b.If c.in-If.test (sym c.as_slice.ensures i) (c.in-None.is i)) in
    if_one _ _ _ _ _ _ is c.expr_fits-test.ensures c.in_ok-then-in-If.ensures.answer
