use Rattle.std.proofs.Common.{ap, sym, ◌∙◌, map}
use Rattle.pts_loops.specs.Turns.{begins_with}
use Rattle.pts_loops.proofs.LoopTurns.{begun_there, value_more}
use Rattle.pts_loops.proofs.run.Run.enter.Goals as goal

pub loop-j-preserved : goal.loop-j-preserved
loop-j-preserved c =
    let store = c.args.turn.now.layer.below in
    let cs = c.as_slice-clauses.result.now in
    let inv = c.loop-j.invariant in
    let begun = begun_there store c.loop-j.j cs _ c.loop-j.turn.begun.items c.index-in-loop-j.result.now c.loop-j-test.true
    (inv.4 ∙ c.requires.begun ∙ sym (ap (map (begins_with store)) c.as_slice-clauses.ensures)) c.index-in-loop-j.ensures in (
      value_more store c.args.p c.loop-j.j cs _ c.loop-j.turn.values.items c.push-in-loop-j.new.values.items _ c.clause_value.result c.loop-j-test.true inv.0 c.in_ok-push-2.ensures
          (c.clause_value.ensures store begun),
      inv.1,
      inv.2,
      inv.3,
      inv.4,
      inv.5,
    )
