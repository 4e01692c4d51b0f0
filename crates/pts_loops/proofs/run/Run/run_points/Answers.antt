use Rattle.std.proofs.Common.{◌≡◌, ◌+◌, ◌∙◌, arith, subst}
use Rattle.pts_loops.specs.Turns.{IsAtPoint, last}
use Rattle.pts_loops.proofs.LoopTurns.{goes_as}
use Rattle.pts_loops.proofs.Ready.{steps_are}
use Rattle.pts_loops.proofs.run.Run.run_points.Goals as goal

pub run_point-requires-clause-point : goal.run_point-requires-clause-point
run_point-requires-clause-point c =
    let size = steps_are c.args.self.now c.requires.ready c.loop-k.turn.layer.below in
    let within = c.loop-k-test.true in
    omega (arith, size, within)

pub returns-then-not-branch-clause-goes : goal.returns-then-not-branch-clause-goes
returns-then-not-branch-clause-goes c =
    let now = c.args.self.now in
    goes_as now c.args.turn.now.layer.below c.loop-k.turn.layer.below (λ b. IsAtPoint now b c.args.p (c.loop-k.k + 1)) _ _ c.run_point.new.turn
    c.loop-k.invariant.2 c.if-not-branch.true c.in_ok-run_point.ensures.goes

pub loop-k-preserved : goal.loop-k-preserved
loop-k-preserved c =
    let now = c.args.self.now in
    let store = c.args.turn.now.layer.below in
    let size = steps_are now c.requires.ready store in
    let within = c.loop-k-test.true in (
      goes_as now store c.loop-k.turn.layer.below (λ b. IsAtPoint now b c.args.p (c.loop-k.k + 1)) _ _ c.run_point.new.turn
          c.loop-k.invariant.2 c.if-not-branch.false c.in_ok-run_point.ensures.goes,
      omega (arith, size, within),
      c.in_ok-run_point.ensures.below ∙ c.loop-k.invariant.2,
    )

pub returns-clause-goes : goal.returns-clause-goes
returns-clause-goes c =
    let now = c.args.self.now in
    let store = c.args.turn.now.layer.below in
    let size = steps_are now c.requires.ready store in
    let past = c.loop-k-test.false in
    let most = c.loop-k.invariant.1 in
    let done : c.loop-k.k ≡ last now store = omega (arith, size, past, most) in
    subst (λ k. IsAtPoint now store c.args.p k c.loop-k.turn) done c.loop-k.invariant.0
