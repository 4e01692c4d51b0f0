use Rattle.std.proofs.Common.{ap, sym, ◌∙◌, subst}
use Rattle.pts_store.specs.Overlays.{Layer}
use Rattle.pts_loops.specs.Turns.{IsAtPoint, last}
use Rattle.pts_loops.proofs.LoopTurns.{goes_as}
use Rattle.pts_loops.proofs.PositionTurns.{entered, passed}
use Rattle.pts_loops.proofs.Ready.{steps_are}
use Rattle.pts_loops.proofs.run.Run.run_position.Goals as goal

pub run_points-requires-clause-so_far : goal.run_points-requires-clause-so_far
run_points-requires-clause-so_far c =
    let now = c.args.self.now in
    let new = c.enter.new.turn in
    let is = c.in_ok-enter.ensures in
    subst (λ (b : Layer). IsAtPoint now b.below c.args.p new.first new) (sym is.layer)
    (entered now c.args.turn.now.layer.below c.args.p c.args.turn.now new c.requires.so_far c.requires.position is.layer is.first is.same is.accumulators is.notes is.values)

pub returns-then-not-branch-clause-goes : goal.returns-then-not-branch-clause-goes
returns-then-not-branch-clause-goes c =
    let now = c.args.self.now in
    goes_as now c.args.turn.now.layer.below c.enter.new.turn.layer.below (λ b. IsAtPoint now b c.args.p (last now b)) _ _ c.run_points.new.turn
    (ap (λ (l : Layer). l.below) c.in_ok-enter.ensures.layer) c.if-not-branch.true c.in_ok-run_points.ensures.goes

pub gather-requires : goal.gather-requires
gather-requires c =
    let now = c.args.self.now in
    let store = c.args.turn.now.layer.below in
    let at = goes_as now store c.enter.new.turn.layer.below (λ b. IsAtPoint now b c.args.p (last now b)) _ _ c.run_points.new.turn
    (ap (λ (l : Layer). l.below) c.in_ok-enter.ensures.layer) c.if-not-branch.false c.in_ok-run_points.ensures.goes in
    at.running.count ∙ sym (steps_are now c.requires.ready store)

pub returns-clause-goes : goal.returns-clause-goes
returns-clause-goes c =
    let now = c.args.self.now in
    let store = c.args.turn.now.layer.below in
    let at = goes_as now store c.enter.new.turn.layer.below (λ b. IsAtPoint now b c.args.p (last now b)) _ _ c.run_points.new.turn
    (ap (λ (l : Layer). l.below) c.in_ok-enter.ensures.layer) c.if-not-branch.false c.in_ok-run_points.ensures.goes in
    let is = c.gather.ensures in
    passed now store c.args.p c.run_points.new.turn c.gather.new.turn c.requires.ready at c.requires.position is.layer is.first is.begun is.notes is.accumulators
