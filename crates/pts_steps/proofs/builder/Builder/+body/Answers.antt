use Rattle.std.proofs.Common.{ap, ◌∙◌, subst}
use Rattle.std.proofs.lemmas.Result.{on_ok_weaker}
use Rattle.pts_tree.specs.declared.loops.BodyStmt.TheVariants as b
use Rattle.pts_points.specs.Points.{body_piece}
use Rattle.pts_points.proofs.StatementForms as forms
use Rattle.pts_steps.specs.Building.{GoesInside, left}
use Rattle.pts_steps.proofs.Goings.{goes_inside, goes_off_vector}
use Rattle.pts_steps.proofs.Statements.{as_stmt, body_end, body_turn, if_alone, if_else}
use Rattle.pts_steps.proofs.builder.Builder.«+body».Goals as goal

pub body-loop-stmt-preserved : goal.body-loop-stmt-preserved
body-loop-stmt-preserved t c =
    body_turn c.args.x.now c.args.self.now c.loop-stmt.self c.stmt.new.self c.args.body.now c.loop-stmt.stmt-index c.stmt-item.result c.loop-stmt-test.true c.stmt-item.is c.loop-stmt.invariant c.in_ok-stmt.ensures

pub body-returns : goal.body-returns
body-returns t c = body_end c.args.x.now c.args.self.now c.loop-stmt.self c.args.body.now c.loop-stmt.stmt-index c.loop-stmt-test.false c.loop-stmt.invariant

pub braces-returns : goal.braces-returns
braces-returns t c =
    λ space.
    goes_inside c.args.x.now c.args.self.now c.body.new.self c.leave.new.self (body_piece c.args.self.now.globals space c.args.body.now) (c.in_ok-body.ensures space)
    (c.leave.ensures ∙ ap (λ m. left m c.body.new.self) c.mark-mark.ensures)

pub stmt-returns-in_ok-assign-in-Assign : goal.stmt-returns-in_ok-assign-in-Assign
stmt-returns-in_ok-assign-in-Assign t c =
    λ space.
    as_stmt c.args.x.now space c.args.self.now c.assign.new.self c.args.stmt.now (b.Assign c.in-Assign.place c.in-Assign.value) _ c.in-Assign.is
    (forms.stmt-Assign c.args.self.now.globals space c.in-Assign.place c.in-Assign.value) (c.in_ok-assign-in-Assign.ensures c.args.x.now space)

pub stmt-returns-in-Let : goal.stmt-returns-in-Let
stmt-returns-in-Let t c =
    on_ok_weaker c.bind.result
    (λ g space.
    as_stmt c.args.x.now space c.args.self.now c.bind.new.self c.args.stmt.now (b.Let c.in-Let.name c.in-Let.value) _ c.in-Let.is
    (forms.stmt-Let c.args.self.now.globals space c.in-Let.name c.in-Let.value) (g c.args.x.now space))
    c.bind.ensures

pub stmt-returns-in_ok-give-in-Combine : goal.stmt-returns-in_ok-give-in-Combine
stmt-returns-in_ok-give-in-Combine t c =
    λ space.
    as_stmt c.args.x.now space c.args.self.now c.give.new.self c.args.stmt.now (b.Combine c.in-Combine.view c.in-Combine.value) _ c.in-Combine.is
    (forms.stmt-Combine c.args.self.now.globals space c.in-Combine.view c.in-Combine.value) (c.in_ok-give-in-Combine.ensures space)

pub stmt-returns-in-VecOff : goal.stmt-returns-in-VecOff
stmt-returns-in-VecOff t c =
    on_ok_weaker c.braces-in-VecOff.result
    (λ g space.
    as_stmt c.args.x.now space c.args.self.now c.braces-in-VecOff.new.self c.args.stmt.now (b.VecOff c.in-VecOff.body) _ c.in-VecOff.is
    (forms.stmt-VecOff c.args.self.now.globals space c.in-VecOff.body)
    (goes_off_vector c.args.x.now c.args.self.now c.braces-in-VecOff.new.self (body_piece c.args.self.now.globals space c.in-VecOff.body)
    (subst (λ ys. GoesInside c.args.x.now c.args.self.now c.braces-in-VecOff.new.self (body_piece c.args.self.now.globals space ys)) c.as_slice-in-VecOff.ensures (g space))))
    c.braces-in-VecOff.ensures

pub stmt-returns-in_ok-update-in-Ordered : goal.stmt-returns-in_ok-update-in-Ordered
stmt-returns-in_ok-update-in-Ordered t c =
    λ space.
    as_stmt c.args.x.now space c.args.self.now c.update.new.self c.args.stmt.now (b.Ordered c.in-Ordered.place c.in-Ordered.op c.in-Ordered.value) _ c.in-Ordered.is
    (forms.stmt-Ordered c.args.self.now.globals space c.in-Ordered.place c.in-Ordered.op c.in-Ordered.value) (c.in_ok-update-in-Ordered.ensures c.args.x.now space)

pub stmt-returns-in_ok-braces-in-If-2 : goal.stmt-returns-in_ok-braces-in-If-2
stmt-returns-in_ok-braces-in-If-2 t c =
    let x = c.args.x.now in
    let second = c.braces.new.self in
    λ space.
    if_else x space c.args.self.now c.test.new.self second c.args.stmt.now c.in-If.test c.in-If.body c.in-If.other c.in-If.is (c.in_ok-test-in-If.ensures x space)
    (subst (λ ys. GoesInside x c.test.new.self second (body_piece c.test.new.self.globals space ys)) c.as_slice.ensures (c.in_ok-braces-in-If.ensures space))
    c.braces-in-Some.new.self c.in-Some.other c.in-Some.is
    (subst (λ ys. GoesInside x second c.braces-in-Some.new.self (body_piece second.globals space ys)) c.as_slice-in-Some.ensures (c.in_ok-braces-in-If-2.ensures space))

pub stmt-returns-in_default : goal.stmt-returns-in_default
stmt-returns-in_default t c =
    let x = c.args.x.now in
    let second = c.braces.new.self in
    λ space.
    if_alone x space c.args.self.now c.test.new.self second c.args.stmt.now c.in-If.test c.in-If.body c.in-If.other c.in-If.is (c.in_ok-test-in-If.ensures x space)
    (subst (λ ys. GoesInside x c.test.new.self second (body_piece c.test.new.self.globals space ys)) c.as_slice.ensures (c.in_ok-braces-in-If.ensures space))
    c.in_default.is
