use Rattle.std.proofs.Common.{◌+◌}
use Rattle.pts_loops.specs.Turns.{IsAtPosition}
use Rattle.pts_loops.proofs.LoopTurns.{goes_as}
use Rattle.pts_loops.proofs.run.Run.run_chunks.Goals as goal

pub returns-then-not-branch-clause-goes : goal.returns-then-not-branch-clause-goes
returns-then-not-branch-clause-goes g c =
    let now = c.args.self.now in
    goes_as now c.args.turn.now.layer.below c.loop-low.turn.layer.below (λ b. IsAtPosition now b (c.loop-low.low + c.min.result)) _ _ c.run_chunk.new.turn
    c.loop-low.invariant.1 c.if-not-branch.true c.in_ok-run_chunk.ensures.goes
