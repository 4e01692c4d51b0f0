use Rattle.std.proofs.Common.{map, sym, ap, ◌∙◌, subst}
use Rattle.pts_points.specs.Pieces.{sequence}
use Rattle.pts_points.specs.Points.{body_piece, clause_piece}
use Rattle.pts_steps.specs.Building.{Goes, left}
use Rattle.pts_steps.specs.Steps.{AreSteps, loop_points}
use Rattle.pts_steps.proofs.LoopSteps.{loop_left, loop_made}
use Rattle.pts_steps.proofs.builder.Builder.loop_steps.Goals as goal

pub returns-clause-steps : goal.returns-clause-steps
returns-clause-steps c =
    let x = c.args.x.now in
    let a = c.args.self.now in
    let b = c.enter_loop.new.self in
    let d = c.live_outs.new.self in
    let e = c.body.new.self in
    let entered = c.in_ok-enter_loop.ensures in
    subst (AreSteps a.globals x (loop_points a.globals x)) (sym c.replace.ensures.value)
    (loop_made x a b d e c.leave.new.self c.requires.none entered.stands entered.same.0 entered.same.1 entered.above
    (subst (λ cs. Goes x b d (sequence (map (clause_piece b.globals) cs))) c.as_slice.ensures (c.in_ok-live_outs.ensures x))
    (λ space. subst (λ ys. Goes x d e (body_piece d.globals space ys)) c.as_slice-2.ensures (c.in_ok-body.ensures space))
    (c.leave.ensures ∙ ap (λ m. left m e) c.mark-mark.ensures))

pub returns-clause-same : goal.returns-clause-same
returns-clause-same c =
    let x = c.args.x.now in
    let a = c.args.self.now in
    let b = c.enter_loop.new.self in
    let d = c.live_outs.new.self in
    let e = c.body.new.self in
    let f = c.leave.new.self in
    let entered = c.in_ok-enter_loop.ensures in
    loop_left x a b d e f c.requires.none entered.stands entered.same.0 entered.same.1 entered.above
    (subst (λ cs. Goes x b d (sequence (map (clause_piece b.globals) cs))) c.as_slice.ensures (c.in_ok-live_outs.ensures x))
    (λ space. subst (λ ys. Goes x d e (body_piece d.globals space ys)) c.as_slice-2.ensures (c.in_ok-body.ensures space))
    (c.leave.ensures ∙ ap (λ m. left m e) c.mark-mark.ensures)
    (record f { steps = c.replace.new.dest }) (λ i. record f { steps = (c.replace.ensures.after ∙ c.new.ensures) i })
