use Rattle.std.proofs.Common.{[], ap, subst, sym, ◌∙◌}
use Rattle.pts_outcomes.specs.Calls.{in_index_order}
use Rattle.pts_passes.specs.Ends.{EndsAlong}
use Rattle.pts_passes.specs.Inductions.{all_stay}
use Rattle.pts_loops.specs.Answers.{end_of, writes_of}
use Rattle.pts_loops.specs.Turns.{IsAtPosition, call_in, pass_of}
use Rattle.pts_loops.proofs.Ended.{leaves_kind, throws}
use Rattle.pts_loops.proofs.LoopTurns.{goes_as}
use Rattle.pts_loops.proofs.run.Run.run_in_order.Goals as goal

pub returns-then-not-all_stay : goal.returns-then-not-all_stay
returns-then-not-all_stay g c =
    leaves_kind c.args.pool c.args.self.now (g.V.View.stands c.args.view.now) [] (λ i. [])
    (ap (λ b. all_stay b c.args.self.now.head.now) (sym c.in_ok-turn.ensures.below) ∙ sym c.all_stay.ensures ∙ c.if-not-all_stay.true)

pub returns-then-not-branch : goal.returns-then-not-branch
returns-then-not-branch g c =
    throws c.args.pool c.args.self.now (g.V.View.stands c.args.view.now) [] (λ i. [])
    (goes_as c.args.self.now (g.V.View.stands c.args.view.now) c.in_ok-turn.turn.layer.below (λ b. IsAtPosition c.args.self.now b c.args.self.now.head.now.positions) _ _ c.run_chunks.new.turn
    c.in_ok-turn.ensures.below c.if-not-branch.true c.in_ok-run_chunks.ensures.goes)

pub returns : goal.returns
returns g c =
    let now = c.args.self.now in
    subst (λ b. EndsAlong c.args.pool (pass_of now) b (in_index_order (call_in now b)) (end_of c.in_ok-answer.answer) (writes_of c.in_ok-answer.answer))
    (c.in_ok-run_chunks.ensures.below ∙ c.in_ok-turn.ensures.below) c.in_ok-answer.ensures
