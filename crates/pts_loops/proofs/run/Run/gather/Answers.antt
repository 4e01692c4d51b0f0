use Rattle.std.proofs.Common.{ap, length, ◌∙◌, ◌<◌, arith, get_or}
use Rattle.pts_loops.proofs.LoopTurns.{gathered_more}
use Rattle.pts_loops.proofs.run.Run.gather.Goals as goal

pub loop-k-preserved : goal.loop-k-preserved
loop-k-preserved c =
    let now = c.args.self.now in
    let notes = c.args.turn.now.notes.items in
    let inv = c.loop-k.invariant in
    let size = c.requires in
    let within = c.loop-k-test.true in
    let noted : c.loop-k.k < length notes = omega (arith, size, within) in (
      gathered_more now.functions.now now.head.now.clauses notes c.loop-k.k now.steps.now c.index-self-k.result c.index.result.now c.loop-k.turn.accumulators.items
          c.gather_step.new.accumulators.items _ within noted inv.0 c.gather_step.ensures
          (c.index.ensures ∙ ap (λ l. get_or l c.loop-k.k c.index.result.now) inv.4),
      inv.1,
      inv.2,
      inv.3,
      inv.4,
    )
