use Rattle.std.proofs.Common.{[], ◌∷◌, ◌++◌, ap, ◌∙◌}
use Rattle.std.proofs.lemmas.Result.{on_ok_weaker}
use Rattle.pts_points.specs.Points.{stmt_piece, body_piece}
use Rattle.pts_points.proofs.Builds.{adds_nothing, adds_branch}
use Rattle.pts_points.proofs.Turns.{adds_all}
use Rattle.pts_points.proofs.BodyTurns.{body_turn, off_added, in-Assign, in-Let, in-Combine, in-If-else, in-If-alone, in-VecOff, in-Ordered}
use Rattle.pts_points.proofs.builder.Builder.«+body».Goals as goal

pub body-loop-stmt-init : goal.body-loop-stmt-init
body-loop-stmt-init t c = adds_nothing c.args.self.now

pub body-loop-stmt-preserved : goal.body-loop-stmt-preserved
body-loop-stmt-preserved t c =
    body_turn c.args.scope.now c.args.self.now c.loop-stmt.self c.stmt.new.self c.args.body.now c.loop-stmt.stmt-index c.stmt-item.result c.loop-stmt-test.true c.stmt-item.is c.loop-stmt.invariant c.in_ok-stmt.ensures

pub body-returns : goal.body-returns
body-returns t c = adds_all (stmt_piece c.args.scope.now c.args.self.now.space) c.args.self.now c.loop-stmt.self c.args.body.now c.loop-stmt.stmt-index c.loop-stmt-test.false c.loop-stmt.invariant

pub stmt-returns-in-Assign : goal.stmt-returns-in-Assign
stmt-returns-in-Assign t c =
    on_ok_weaker c.assign.result (in-Assign c.args.scope.now c.args.self.now c.assign.new.self c.args.stmt.now c.in-Assign.place c.in-Assign.value c.in-Assign.is) c.assign.ensures

pub stmt-returns-in_ok-compute-in-Let : goal.stmt-returns-in_ok-compute-in-Let
stmt-returns-in_ok-compute-in-Let t c = in-Let c.args.scope.now c.args.self.now c.compute.new.self c.args.stmt.now c.in-Let.field-0 c.in-Let.value c.in-Let.is c.in_ok-compute-in-Let.ensures.points

pub stmt-returns-in_ok-compute-in-Combine : goal.stmt-returns-in_ok-compute-in-Combine
stmt-returns-in_ok-compute-in-Combine t c =
    in-Combine c.args.scope.now c.args.self.now c.compute-in-Combine.new.self c.args.stmt.now c.in-Combine.field-0 c.in-Combine.value c.in-Combine.is c.in_ok-compute-in-Combine.ensures.points

pub stmt-returns-in-VecOff : goal.stmt-returns-in-VecOff
stmt-returns-in-VecOff t c =
    on_ok_weaker c.off_vector.result (in-VecOff c.args.scope.now c.args.self.now c.off_vector.new.self c.args.stmt.now c.in-VecOff.body c.as_slice-in-VecOff.result.now c.in-VecOff.is c.as_slice-in-VecOff.ensures) c.off_vector.ensures

pub stmt-returns-in-Ordered : goal.stmt-returns-in-Ordered
stmt-returns-in-Ordered t c =
    on_ok_weaker c.update.result (in-Ordered c.args.scope.now c.args.self.now c.update.new.self c.args.stmt.now c.in-Ordered.place c.in-Ordered.field-1 c.in-Ordered.value c.in-Ordered.is) c.update.ensures

pub branch-returns : goal.branch-returns
branch-returns t c =
    adds_branch c.args.test c.args.self.now c.body.new.self (body_piece c.args.scope.now c.args.self.now.space c.args.body.now) c.replace-outer.new.dest c.replace-outer.result
    (c.replace-outer.ensures.after ∙ c.in_ok-push.ensures.ok ∙ ap (λ ts. ts ++ c.args.test ∷ []) (c.in_ok-inner.ensures ∙ c.as_slice.ensures)) c.replace-outer.ensures.value c.in_ok-body.ensures

pub stmt-returns-in_ok-branch-in-If-2 : goal.stmt-returns-in_ok-branch-in-If-2
stmt-returns-in_ok-branch-in-If-2 t c =
    in-If-else c.args.scope.now c.args.self.now c.compute-in-If.new.self c.args.stmt.now c.in-If.test c.in-If.body c.as_slice.result.now c.in-If.other c.in-If.is c.as_slice.ensures c.in_ok-number-in-If.ensures.points c.branch-self.new.self c.branch-self-in-Some.new.self c.in_ok-number-in-If.number c.in-Some.other c.as_slice-in-Some.result.now c.in-Some.is c.as_slice-in-Some.ensures
    c.in_ok-number-in-If.ensures.number c.in_ok-branch-in-If.ensures c.in_ok-branch-in-If-2.ensures

pub stmt-returns-in_default : goal.stmt-returns-in_default
stmt-returns-in_default t c = in-If-alone c.args.scope.now c.args.self.now c.compute-in-If.new.self c.args.stmt.now c.in-If.test c.in-If.body c.as_slice.result.now c.in-If.other c.in-If.is c.as_slice.ensures c.in_ok-number-in-If.ensures.points c.branch-self.new.self c.in_ok-number-in-If.number c.in_default.is c.in_ok-number-in-If.ensures.number c.in_ok-branch-in-If.ensures

pub off_vector-returns : goal.off_vector-returns
off_vector-returns t c =
    on_ok_weaker c.back_on.result (off_added c.args.scope.now c.args.self.now c.leave_vector.new.self c.body.new.self c.back_on.new.self c.args.body.now c.leave_vector.ensures c.in_ok-body.ensures) c.back_on.ensures
